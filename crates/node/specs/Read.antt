-- The nodes of an opened image, as a table.
use Rattle.trie.specs.Table.{Table}
use Rattle.node.specs.declared.read.Nodes.{Nodes}
use Rattle.node.specs.Image.{table_of}

-- the table of the nodes: that of the image, by its head
abbrev pub node_table : Nodes → Table
node_table nodes = table_of nodes.head nodes.image.now
