-- The calls of Ask 7 on 01's small file: each call of the table leaves what the table says. The
-- checker computes it.
use mathlib.Core.Path.{◌≡◌, refl}
use mathlib.Core.List.{map}
use Rattle.field.specs.Field.{field_at, digits}
use Rattle.utf8.specs.Table37.{in_range, in_ranges, fits_row, length_by, char_len}
use Rattle.utf8.specs.Text.{char_at, in_front, chars_from, chars}
use Rattle.trie.specs.Table.{follow, descend, value_at, answer, missing}
use Rattle.trie.specs.Keys.{present, own_key, by_letter, keys_under, before, filter}
use Rattle.trie.specs.Storing.{added, change_of}
use Rattle.trie.specs.Lowest.{lowest, any_below}
use Rattle.trie.specs.Tree.{holds_address, at_depth, depth_of, depth_within}
use Rattle.passing.specs.Passing.{passes, count_at, one_for_each, key_at, rank_in}
use Rattle.head.specs.Fields.{head_of, permitted, node_width, node_place, used_len}
use Rattle.alphabet.specs.Letters.{among, all_different, is_alphabet, good_alphabet, or_empty}
use Rattle.alphabet.specs.Letters.{letters}
use Rattle.alphabet.specs.Letters.{letter_of, with_letter, letters_of_chars, key_of_chars}
use Rattle.alphabet.specs.Letters.{key_of_text}
use Rattle.node.specs.Image.{link_place, data_place, table_of}
use Rattle.node.specs.Writes.{carried_out, last_node, path_node, new_nodes, total_write}
use Rattle.node.specs.Writes.{link_write}
use Rattle.node.specs.Writes.{data_write, store_writes}
use Rattle.paper.specs.Hearing.{row_when, first, refused_numbers, done_numbers, heard}
use Rattle.paper.specs.Rows.{row1, row2, row3, row4, row5, bad_link, holds_bad, row_when_lowest}
use Rattle.paper.specs.Rows.{row6}
use Rattle.paper.specs.Rows.{times_in, times, row7, row8, row9, all_below, row10, is_none}
use Rattle.paper.specs.Rows.{row10text}
use Rattle.paper.specs.Rows.{row11, row12, row13, row14, row15, row16, is_hidden, row19}
use Rattle.paper.specs.Given.{alphabet_in, meant_by, meant_in, key_in}
use Rattle.paper.specs.Orders.{opening_rows, opening_rows_of, node_rows, check_order, letters_rows}
use Rattle.paper.specs.Orders.{text_rows, key_rows_by, key_rows, adding_rows, new_of}
use Rattle.paper.specs.Calls.{table_in, cleared_by, work_after, stored_keys, stored_image}
use Rattle.paper.specs.Cases.{Case}
use Rattle.position.specs.Counts.{count_in, counts_in, row25, row5again}
use Rattle.position.specs.Orders.{usable, counts_order, check_counts_order, store_counts_order}
use Rattle.position.specs.Orders.{key_at_order, if_stored, position_order}
use Rattle.position.specs.Calls.{work_left, worked, counts_of, check_counts_of, store_counts_of}
use Rattle.position.specs.Calls.{placed_key, key_at_of, position_of}
use Rattle.position.specs.Cases.{cases}

pub tabulated : map (λ (c : Case). c.call) cases ≡ map (λ (c : Case). c.leaves) cases
unfolding field_at digits in_range in_ranges fits_row length_by char_len char_at in_front
    chars_from chars
    follow descend value_at answer missing present own_key by_letter keys_under before filter added
    change_of lowest any_below holds_address at_depth depth_of depth_within passes count_at
    one_for_each
    key_at rank_in head_of permitted node_width node_place used_len among all_different is_alphabet
    good_alphabet or_empty letters letter_of with_letter letters_of_chars key_of_chars key_of_text
    link_place
    data_place table_of carried_out last_node path_node new_nodes total_write link_write data_write
    store_writes row_when first refused_numbers done_numbers heard row1 row2 row3 row4 row5
    bad_link
    holds_bad row_when_lowest row6 times_in times row7 row8 row9 all_below row10 is_none row10text
    row11
    row12 row13 row14 row15 row16 is_hidden row19 alphabet_in meant_by meant_in key_in opening_rows
    opening_rows_of node_rows check_order letters_rows text_rows key_rows_by key_rows adding_rows
    new_of
    table_in cleared_by work_after stored_keys stored_image count_in counts_in row25 row5again
    usable
    counts_order check_counts_order store_counts_order key_at_order if_stored position_order
    work_left worked
    counts_of check_counts_of store_counts_of placed_key key_at_of position_of
tabulated = refl
