-- 01: "Prove those marked P, together, as a single tabulated fact about the written rules", with
-- cases of 02's Asks 3, 6 and 8. Each call of the table leaves what the table says, and each image
-- that is left has the G, W and U that the table says; the checker computes both.
use mathlib.Core.Path.{◌≡◌, refl}
use mathlib.Core.List.{map}
use Rattle.field.specs.Field.{field_at, digits}
use Rattle.utf8.specs.Table37.{in_range, in_ranges, fits_row, length_by, char_len}
use Rattle.utf8.specs.Text.{char_at, in_front, chars_from, chars}
use Rattle.trie.specs.Table.{follow, descend, value_at, answer, missing, fault}
use Rattle.trie.specs.Keys.{present, own_key, by_letter, keys_under, before, meets, first_meeting}
use Rattle.trie.specs.Storing.{added, change_of}
use Rattle.trie.specs.Lowest.{lowest, any_below}
use Rattle.trie.specs.Tree.{holds_address, at_depth, depth_of, depth_within}
use Rattle.head.specs.Fields.{head_of, head_bytes, permitted, node_width, node_place, used_len}
use Rattle.alphabet.specs.Letters.{among, all_different, is_alphabet, good_alphabet, or_empty}
use Rattle.alphabet.specs.Letters.{letters}
use Rattle.alphabet.specs.Letters.{letter_of, with_letter, letters_of_chars, key_of_chars}
use Rattle.alphabet.specs.Letters.{key_of_text}
use Rattle.node.specs.Image.{link_place, data_place, table_of}
use Rattle.node.specs.Writes.{carried_out, last_node, path_node, new_nodes, total_write}
use Rattle.node.specs.Writes.{link_write}
use Rattle.node.specs.Writes.{data_write, store_writes}
use Rattle.paper.specs.Hearing.{row_when, first, refused_numbers, done_numbers, heard}
use Rattle.paper.specs.Rows.{row1, row2, row3, row4, row5, bad_link, holds_bad, row_when_lowest}
use Rattle.paper.specs.Rows.{row6, times_in, times, row7, row8, row9, row9next, all_below}
use Rattle.paper.specs.Rows.{row10, is_none, row10text, row11, row12, row13, row14, row15}
use Rattle.paper.specs.Rows.{row6_at, row6path, row16, is_hidden, row19}
use Rattle.paper.specs.Given.{alphabet_in, meant_by, meant_in, key_in}
use Rattle.paper.specs.Orders.{opening_rows, opening_rows_of, node_rows, check_order, letters_rows}
use Rattle.paper.specs.Orders.{text_rows, key_rows_by, key_rows, next_rows, look_up_order}
use Rattle.paper.specs.Orders.{adding_rows, new_of, store_order, next_key_order}
use Rattle.paper.specs.Calls.{table_in, cleared_by, work_after, fresh_head, fresh_image, make_of}
use Rattle.paper.specs.Calls.{check_of, stored_keys, count_of, look_up_of, stored_image, store_of}
use Rattle.paper.specs.Calls.{next_in, found_in, next_key_of}
use Rattle.paper.specs.Cases.{Case, cases, Sized, sizes, figures_of}

pub tabulated :
    (map (λ (c : Case). c.call) cases ≡ map (λ (c : Case). c.leaves) cases)
    × (map (λ (s : Sized). figures_of s.image) sizes ≡ map (λ (s : Sized). s.figures) sizes)
unfolding field_at digits in_range in_ranges fits_row length_by char_len char_at in_front
    chars_from chars
    follow descend value_at answer missing fault present own_key by_letter keys_under before meets
    first_meeting added change_of lowest any_below holds_address at_depth depth_of depth_within
    head_of
    permitted node_width node_place used_len among all_different is_alphabet good_alphabet or_empty
    letters letter_of with_letter letters_of_chars key_of_chars key_of_text link_place data_place
    table_of
    carried_out last_node path_node new_nodes total_write link_write data_write store_writes
    row_when first
    refused_numbers done_numbers heard row1 row2 row3 row4 row5 bad_link holds_bad row_when_lowest
    row6
    times_in times row7 row8 row9 row9next all_below row10 is_none row10text row11 row12 row13
    row14
    row15 row16 is_hidden row19 row6_at row6path alphabet_in meant_by meant_in key_in opening_rows
    opening_rows_of node_rows check_order letters_rows text_rows key_rows_by key_rows next_rows
    look_up_order
    adding_rows new_of store_order next_key_order table_in cleared_by work_after fresh_head
    head_bytes
    fresh_image make_of check_of stored_keys count_of look_up_of stored_image store_of next_in
    found_in
    next_key_of
tabulated = (refl, refl)
