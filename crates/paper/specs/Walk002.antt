-- TRIEFF 0.6.0 (source document 002), section Querying the document: its sample algorithm, line
-- by line and independent of our own walk, for demand 2. It has no table and no refusal: it
-- reads fields at computed places of the document, and answers 0 for what is not there.
use Rattle.std.specs.Prelude.{ℕ, zero, suc, ◌+◌, ◌*◌, ◌||◌, cond, List, [], ◌∷◌, map, length, leb}
use Rattle.std.specs.Prelude.{ltb}
use Rattle.std.proofs.Math.Option.{Option, none, some}
use Rattle.field.specs.Field.{field_at}
use Rattle.utf8.specs.Text.{chars}
use Rattle.alphabet.specs.Letters.{letters, letter_of}
use Rattle.head.specs.declared.Head.{Head}
use Rattle.head.specs.Fields.{head_of}
use Rattle.paper.specs.Given.{Given, as_letters, as_text, alphabet_in}

-- return [read [D] bytes at](address * ([N] * [A] + [D]) + [F] + 28 + [N] * [A]);
unfoldable pub data_read : Head → List ℕ → ℕ → ℕ
unfolding field_at
data_read h l address = field_at l (address * (h.n * h.a + h.d) + h.f + 28 + h.n * h.a) h.d

-- address = [read [A] bytes at](address * ([N] * [A] + [D]) + [F] + 28 + query[f] * [A]);
unfoldable pub link_read : Head → List ℕ → ℕ → ℕ → ℕ
unfolding field_at
link_read h l address x = field_at l (address * (h.n * h.a + h.d) + h.f + 28 + x * h.a) h.a

-- if (address == 0) { return 0; //not found }, else the next letter
unfoldable pub unless_empty : ℕ → (ℕ → ℕ) → ℕ
unless_empty zero on = 0
unless_empty (suc c) on = on (suc c)

-- for (int f = 0; f < query.length; f++) { if (query[f] < 0 || query[f] >= [N]) { return 0; } .. }
unfoldable pub query_from : Head → List ℕ → ℕ → List ℕ → ℕ
unfolding data_read link_read unless_empty
query_from h l address [] = data_read h l address
query_from h l address (x ∷ xs) =
    cond (leb h.n x) 0 (unless_empty (link_read h l address x) (λ c. query_from h l c xs))

-- if (query.length < [min] || query.length > [max]) { return 0; //doesn't exist }
unfoldable pub query002 : List ℕ → List ℕ → ℕ
unfolding query_from head_of
query002 l query =
    cond (ltb (length query) (head_of l).min || ltb (head_of l).max (length query)) 0
    (query_from (head_of l) l 0 query)

-- s.indexOf(qTemp.charAt(f)): the place of a character among the allowed characters, which 002
-- means by s there. For a character that is not found it has -1, here [N]; the same test turns
-- both away.
unfoldable pub index_of : Head → List ℕ → ℕ → ℕ
unfolding letter_of
index_of h allowedChars c =
    cond (ltb (letter_of allowedChars c) (length allowedChars)) (letter_of allowedChars c) h.n

-- for (int f = 0; f < s.length; f++) { query[f] = s.indexOf(qTemp.charAt(f)); }; none for bytes
-- that are not well-formed text, of which 002 does not speak
unfoldable pub chars_query : List ℕ → Option (List ℕ) → Option (List ℕ)
unfolding index_of letters alphabet_in
chars_query l none = none
chars_query l (some s) = some (map (index_of (head_of l) (letters (alphabet_in (head_of l) l))) s)

-- if (qTemp instanceof String) { .. } else { query = (int[]) qTemp; }
unfoldable pub query_given : List ℕ → Given → Option (List ℕ)
unfolding chars_query chars
query_given l (as_letters query) = some query
query_given l (as_text text) = chars_query l (chars text)

-- what the query answers; where there is none, 0
unfoldable pub query_made : List ℕ → Option (List ℕ) → ℕ
unfolding query002
query_made l none = 0
query_made l (some query) = query002 l query

-- the query for a key by its letters or by its text
unfoldable pub query_of002 : List ℕ → Given → ℕ
unfolding query_given query_made
query_of002 l given = query_made l (query_given l given)
