-- 01, "What the bench may hear" and "Walking, storing, listing": the outcome of each call, for
-- any arguments. It is the first refusal of the call's order or, where none is given, what 01
-- says that the call does. Stores with writes and mending are 02's, Ask 1.
use Rattle.std.specs.Prelude.{ℕ, ◌+◌, ◌-◌, Bool, true, false, ◌&&◌, cond, List, [], ◌∷◌, ◌++◌}
use Rattle.std.specs.Prelude.{length, drop, replicate, eqb, pos}
use Rattle.std.proofs.Math.Option.{Option, none, some}
use Rattle.std.proofs.lemmas.List.Edits.{sets}
use Rattle.field.specs.Field.{digits}
use Rattle.trie.specs.Table.{Table, descend, answer}
use Rattle.trie.specs.Keys.{listing, meets, first_meeting}
use Rattle.trie.specs.Storing.{change_of}
use Rattle.head.specs.declared.Head.{Head}
use Rattle.head.specs.Fields.{head_of, head_bytes, put_total, node_width}
use Rattle.alphabet.specs.Letters.{or_empty}
use Rattle.node.specs.Image.{table_of}
use Rattle.node.specs.Writes.{Write, carried_out, noted, store_writes}
use Rattle.paper.specs.Hearing.{Row, Numbers, Outcome, outcome, done_numbers, first, heard}
use Rattle.paper.specs.Rows.{row5}
use Rattle.paper.specs.Given.{Given, key_in}
use Rattle.paper.specs.Orders.{opening_rows, opening_rows_of, check_order, look_up_order}
use Rattle.paper.specs.Orders.{store_order, next_key_order}

-- the table of an image, by its own head
unfoldable pub table_in : List ℕ → Table
unfolding table_of head_of
table_in l = table_of (head_of l) l

-- by the row that 1 to 5 give: where they pass, the first numbers are 0 and the rest keep what
-- they held; else all keep what they held
unfoldable pub cleared_by : Row → ℕ → List ℕ → List ℕ
cleared_by none nodes work = replicate nodes 0 ++ drop nodes work
cleared_by (some s) nodes work = work

-- "Once 5 is passed, the first G+1 of them are 0 when the call returns, with the G of entry,
-- whatever the answer; the rest keep what they held. If the call stops at 5, where its order
-- first names it, or before that, all keep what they held."
unfoldable pub work_after : List ℕ → List ℕ → List ℕ
unfolding cleared_by first opening_rows_of row5 head_of
work_after l work =
    cleared_by (first (opening_rows_of l ++ (row5 (head_of l) (length work) ∷ [])))
    ((head_of l).g + 1) work

-- ---- make

-- the head of a fresh image: "for G = 0; F is the length of the alphabet given"
unfoldable pub fresh_head : ℕ → ℕ → ℕ → List ℕ → ℕ → ℕ → Head
fresh_head n a d alphabet least most =
    record { g = 0; n = n; a = a; d = d; f = length alphabet; min = least; max = most }

-- "done, it writes head, alphabet and a zero root, and bytes from U on keep what they held"
unfoldable pub fresh_image : Head → List ℕ → List ℕ → List ℕ
unfolding head_bytes node_width
fresh_image h alphabet image = sets image 0 (head_bytes h ++
    (alphabet ++ replicate (node_width h) 0))

-- make: done or refused; a refusal leaves the lent slice as it was
unfoldable pub make_of : List ℕ → ℕ → ℕ → ℕ → List ℕ → ℕ → ℕ → Outcome
unfolding heard first opening_rows fresh_head fresh_image done_numbers
make_of image n a d alphabet least most =
    heard (first (opening_rows (fresh_head n a d alphabet least most) alphabet (length image)))
    (image ∷ [])
    (outcome (done_numbers 0 (pos 0) 0)
    (fresh_image (fresh_head n a d alphabet least most) alphabet image ∷ []))

-- ---- check

-- check: done or refused; it writes the working numbers alone
unfoldable pub check_of : List ℕ → List ℕ → Outcome
unfolding heard first check_order work_after done_numbers
check_of l work =
    heard (first (check_order l work)) (work_after l work ∷ [])
    (outcome (done_numbers 0 (pos 0) 0) (work_after l work ∷ []))

-- ---- number of keys

-- the stored keys of an image, in order
unfoldable pub stored_keys : List ℕ → List (List ℕ)
unfolding table_in head_of
stored_keys l = listing (table_in l) (head_of l).n (head_of l).min (head_of l).max

-- number of keys: how many keys are stored
unfoldable pub count_of : List ℕ → List ℕ → Outcome
unfolding heard first check_order work_after done_numbers stored_keys
count_of l work =
    heard (first (check_order l work)) (work_after l work ∷ [])
    (outcome (done_numbers 0 (pos 0) (length (stored_keys l))) (work_after l work ∷ []))

-- ---- look up

-- the outcome of a lookup that answers this value; a lookup writes no buffer
abbrev pub telling : ℕ → Outcome
telling v = outcome (done_numbers 0 (pos 0) v) []

-- look up: "An empty link means absent: number 0, value 0. At the end the node's data is the
-- value"
unfoldable pub look_up_of : List ℕ → Given → Outcome
unfolding heard first look_up_order done_numbers answer table_in key_in
look_up_of l given =
    heard (first (look_up_order l given)) [] (telling (answer (table_in l) (key_in l given)))

-- ---- store

-- the writes of a store; 02, Ask 1: "Give storing as an ordered list of writes"
abbrev pub writes_in : List ℕ → List ℕ → ℕ → List Write
writes_in l key value = store_writes (head_of l) (descend (table_in l) 0 key) value

-- the image after a store that is not refused: its writes are carried out
unfoldable pub stored_image : List ℕ → List ℕ → ℕ → List ℕ
unfolding carried_out store_writes descend table_in head_of
stored_image l key value = carried_out l (writes_in l key value)

-- store: "Store also answers the change in the number of stored keys"; a refusal leaves the
-- image as it was
unfoldable pub store_of : List ℕ → List ℕ → Given → ℕ → Outcome
unfolding heard first store_order work_after done_numbers stored_image change_of answer key_in
store_of l work given value =
    heard (first (store_order l work given value)) (l ∷ work_after l work ∷ [])
    (outcome (done_numbers 0 (change_of (answer (table_in l) (key_in l given)) value) 0)
    (stored_image l (key_in l given) value ∷ work_after l work ∷ []))

-- ---- store with writes

-- The outcome of a store, and its writes noted at the front of the list of writes: `length` is
-- how many they are. The rest of the list keeps what it held, and a refusal changes none of it.
unfoldable pub with_writes : List Write → List ℕ → Outcome → Outcome
unfolding done_numbers noted
with_writes ws list o =
    cond (eqb o.numbers.number 0)
    (outcome (done_numbers (length ws) o.numbers.change 0)
    (o.lent ++ (sets list 0 (noted ws) ∷ [])))
    (outcome o.numbers (o.lent ++ (list ∷ [])))

-- store with writes: as store, and the writes are noted
unfoldable pub store_writes_of : List ℕ → List ℕ → Given → ℕ → List ℕ → Outcome
unfolding with_writes store_of store_writes descend table_in head_of key_in
store_writes_of l work given value list =
    with_writes (writes_in l (key_in l given) value) list (store_of l work given value)

-- ---- mend

-- "An image is called accepted if the check, lent G+1 working numbers or more, answers 0."
unfoldable pub is_accepted : List ℕ → Bool
unfolding check_of head_of
is_accepted l = eqb (check_of l (replicate ((head_of l).g + 1) 0)).numbers.number 0

-- is G lowered? "if the check answers 8 at p, and the image with G set to p-1 is accepted"
unfoldable pub can_mend : List ℕ → Numbers → Bool
unfolding is_accepted digits
can_mend l m = eqb m.number 8 && is_accepted (put_total l (m.place - 1))

-- "G becomes p-1 and the answer is 0; otherwise nothing changes and the check's answer is
-- returned"
unfoldable pub mend_by : Bool → List ℕ → Outcome → Outcome
unfolding digits done_numbers
mend_by true l o = outcome (done_numbers 0 (pos 0) 0) (put_total l (o.numbers.place - 1) ∷ o.lent)
mend_by false l o = outcome o.numbers (l ∷ o.lent)

-- mend: "Mending is fixed for every image"
unfoldable pub mend_of : List ℕ → List ℕ → Outcome
unfolding mend_by can_mend check_of
mend_of l work = mend_by (can_mend l (check_of l work).numbers) l (check_of l work)

-- ---- next key

-- "the first stored key that meets it", after the key given or at or after it
unfoldable pub next_in : List ℕ → List ℕ → Bool → Option (List ℕ)
unfolding first_meeting meets stored_keys
next_in l key after = first_meeting (meets after key) (stored_keys l)

-- the key that is found: "its letters at the front of the key buffer (the rest unchanged),
-- length and value"
unfoldable pub found_in : List ℕ → List ℕ → List ℕ → List ℕ → Outcome
unfolding done_numbers answer table_in work_after
found_in l work buffer k =
    outcome (done_numbers (length k) (pos 0) (answer (table_in l) k))
    (work_after l work ∷ sets buffer 0 k ∷ [])

-- next key: a refusal leaves the key buffer as it was
unfoldable pub next_key_of : List ℕ → List ℕ → List ℕ → Bool → List ℕ → Outcome
unfolding heard first next_key_order work_after next_in found_in or_empty
next_key_of l work key after buffer =
    heard (first (next_key_order l work key (length buffer) (next_in l key after)))
    (work_after l work ∷ buffer ∷ [])
    (found_in l work buffer (or_empty (next_in l key after)))
