-- TRIEFF 0.6.0 (source document 002), section Adding entry: its sample algorithm, line by line
-- and independent of our own store, which is held against it (`stores_002`). It has no table and
-- no refusal: it reads and writes fields at computed places of the document, big-endian as 01
-- decides; a write past the end changes nothing there. It "first traverses the document as when
-- querying it", so the query and the link that is read are those of `Walk002`. Where its code
-- and its text differ, the text counts.
use Rattle.std.specs.Prelude.{ℕ, zero, suc, ◌+◌, ◌*◌, ◌||◌, cond, List, [], ◌∷◌, length, leb, ltb}
use Rattle.std.proofs.Math.Option.{Option, none, some}
use Rattle.field.specs.Field.{digits, put_field}
use Rattle.head.specs.declared.Head.{Head}
use Rattle.head.specs.Fields.{head_of}
use Rattle.paper.specs.Given.{Given}
use Rattle.paper.specs.Walk002.{link_read, query_given}

-- ---- the writes

-- [write [D] bytes at](address * ([N] * [A] + [D]) + [F] + 28 + [N] * [A], [data]);
unfoldable pub data_written : Head → List ℕ → ℕ → ℕ → List ℕ
unfolding digits
data_written h l address value =
    put_field l (address * (h.n * h.a + h.d) + h.f + 28 + h.n * h.a) h.d value

-- the last line:
-- [write [D] bytes at](address * ([N] * [A] + [D]) + [N] * [A] + [F] + 28, [data]);
unfoldable pub data_at_last : Head → List ℕ → ℕ → ℕ → List ℕ
unfolding digits
data_at_last h l address value =
    put_field l (address * (h.n * h.a + h.d) + h.n * h.a + h.f + 28) h.d value

-- address = address * ([N] * [A] + [D]) + [F] + 28 + query[f] * [A]
-- [write [A] bytes at](address, ++maxAddress);
unfoldable pub link_written : Head → List ℕ → ℕ → ℕ → ℕ → List ℕ
unfolding digits
link_written h l address x maxAddress =
    put_field l (address * (h.n * h.a + h.d) + h.f + 28 + x * h.a) h.a maxAddress

-- [write 32 bits at](0, maxAddress); //Update [G]
unfoldable pub total_written : List ℕ → ℕ → List ℕ
unfolding digits
total_written l maxAddress = put_field l 0 4 maxAddress

-- [write [N]*[A] + [D] bytes at](maxAddress * ([N] * [A] + [D]) + [F] + 28, 0);
-- //create empty node
unfoldable pub empty_written : Head → List ℕ → ℕ → List ℕ
unfolding digits
empty_written h l maxAddress =
    put_field l (maxAddress * (h.n * h.a + h.d) + h.f + 28) (h.n * h.a + h.d) 0

-- ---- creating nodes

-- one turn of the second loop: link, [G] and the empty node
unfoldable pub node_created : Head → List ℕ → ℕ → ℕ → ℕ → List ℕ
unfolding link_written total_written empty_written
node_created h l address x maxAddress =
    empty_written h (total_written (link_written h l address x maxAddress) maxAddress) maxAddress

-- for (; f < s.length; f++) { .. address = maxAddress; }, where s is the query, and the last line
unfoldable pub append_from : Head → List ℕ → ℕ → ℕ → List ℕ → ℕ → List ℕ
unfolding node_created data_at_last
append_from h l address maxAddress [] value = data_at_last h l address value
append_from h l address maxAddress (x ∷ xs) value =
    append_from h (node_created h l address x (suc maxAddress)) (suc maxAddress) (suc maxAddress)
    xs
    value

-- "it starts creating the needed nodes by appending them at the end of the document, provided
-- that the value to be written is different from 0"; else there is no node to write into.
-- address = lastAddress; and maxAddress begins as [G].
unfoldable pub create_from : Head → List ℕ → ℕ → List ℕ → ℕ → List ℕ
unfolding append_from
create_from h l lastAddress query zero = l
create_from h l lastAddress query (suc v) = append_from h l lastAddress h.g query (suc v)

-- ---- the traversal; none is 002's return false

-- if (address == 0) { break; }, else the next letter
unfoldable pub unless_broken {ℓ} : {X : Type ℓ} → ℕ → X → (ℕ → X) → X
unless_broken zero broken on = broken
unless_broken (suc c) broken on = on (suc c)

-- for (f = 0; f < query.length; f++) { if (query[f] < 0 || query[f] >= [N]) { return false; } .. }
-- and, if (f == query.length), the data, which the last line then writes once more
unfoldable pub add_from : Head → List ℕ → ℕ → List ℕ → ℕ → Option (List ℕ)
unfolding link_read unless_broken create_from data_written data_at_last
add_from h l address [] value = some (data_at_last h (data_written h l address value) address
    value)
add_from h l address (x ∷ xs) value =
    cond (leb h.n x) none
    (unless_broken (link_read h l address x) (some (create_from h l address (x ∷ xs) value))
    (λ c. add_from h l c xs value))

-- if (query.length < [min] || query.length > [max]) { return false; //not allowed }
unfoldable pub adds002 : List ℕ → List ℕ → ℕ → Option (List ℕ)
unfolding add_from head_of
adds002 l query value =
    cond (ltb (length query) (head_of l).min || ltb (head_of l).max (length query)) none
    (add_from (head_of l) l 0 query value)

-- the same for what was made of a key by its letters or by its text, if anything was
unfoldable pub adds_made : List ℕ → Option (List ℕ) → ℕ → Option (List ℕ)
unfolding adds002
adds_made l none value = none
adds_made l (some query) value = adds002 l query value

-- ---- the document afterwards

-- where 002 returns false, the document is as it was
unfoldable pub left_by : List ℕ → Option (List ℕ) → List ℕ
left_by l none = l
left_by l (some m) = m

-- the document after adding an entry under a query
unfoldable pub adding002 : List ℕ → List ℕ → ℕ → List ℕ
unfolding adds002 left_by
adding002 l query value = left_by l (adds002 l query value)

-- the document after adding an entry under a key by its letters or by its text
unfoldable pub adding_of002 : List ℕ → Given → ℕ → List ℕ
unfolding query_given adds_made left_by
adding_of002 l given value = left_by l (adds_made l (query_given l given) value)
