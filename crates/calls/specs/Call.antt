-- Every call at once, so that a sentence of the demands on all calls is one law: a call with what
-- it is given and lent, its outcome, the buffers that it may write, and what a refusal leaves in
-- them. Stores with writes and mending are 02's Ask 1, the calls with counts its Ask 7.
use Rattle.std.specs.Prelude.{ℕ, ◌+◌, ◌*◌, Bool, true, false, cond, List, [], ◌∷◌, map}
use Rattle.head.specs.Fields.{head_of}
use Rattle.paper.specs.Hearing.{Numbers, Outcome}
use Rattle.paper.specs.Given.{Given}
use Rattle.paper.specs.Calls.{work_after, make_of, check_of, count_of, look_up_of, store_of}
use Rattle.paper.specs.Calls.{store_writes_of, mend_of, next_key_of}
use Rattle.paper.specs.Repeated.{first_left}
use Rattle.position.specs.Calls.{work_left, counts_of, check_counts_of, store_counts_of, key_at_of}
use Rattle.position.specs.Calls.{position_of}

-- a call on an image, with what it is given and lent. `tally` is any list of counts, right or
-- wrong.
pub data Call : Type 0 where
  make : (n a d : ℕ) (alphabet : List ℕ) (least most : ℕ) → Call
  check : (work : List ℕ) → Call
  count : (work : List ℕ) → Call
  look_up : (given : Given) → Call
  store : (work : List ℕ) (given : Given) (value : ℕ) → Call
  store_writes : (work : List ℕ) (given : Given) (value : ℕ) (list : List ℕ) → Call
  mend : (work : List ℕ) → Call
  next_key : (work key : List ℕ) (after : Bool) (buffer : List ℕ) → Call
  counts : (work tally : List ℕ) → Call
  check_counts : (work tally : List ℕ) → Call
  store_counts : (work : List ℕ) (given : Given) (value : ℕ) (tally : List ℕ) → Call
  key_at : (work tally : List ℕ) (at : ℕ) (buffer : List ℕ) → Call
  position : (work tally : List ℕ) (given : Given) → Call

-- the outcome of a call on this image, as the call's promise cites it
unfoldable pub outcome_of : List ℕ → Call → Outcome
unfolding make_of check_of count_of look_up_of store_of store_writes_of mend_of next_key_of
    counts_of
    check_counts_of store_counts_of key_at_of position_of
outcome_of l (make n a d alphabet least most) = make_of l n a d alphabet least most
outcome_of l (check work) = check_of l work
outcome_of l (count work) = count_of l work
outcome_of l (look_up given) = look_up_of l given
outcome_of l (store work given value) = store_of l work given value
outcome_of l (store_writes work given value list) = store_writes_of l work given value list
outcome_of l (mend work) = mend_of l work
outcome_of l (next_key work key after buffer) = next_key_of l work key after buffer
outcome_of l (counts work tally) = counts_of l work tally
outcome_of l (check_counts work tally) = check_counts_of l work tally
outcome_of l (store_counts work given value tally) = store_counts_of l work given value tally
outcome_of l (key_at work tally at buffer) = key_at_of l work tally at buffer
outcome_of l (position work tally given) = position_of l work tally given

-- ---- the image after a call

-- is the image one of the buffers that a call may write? It is then the first of them.
unfoldable pub writes_image : Call → Bool
writes_image (make n a d alphabet least most) = true
writes_image (check work) = false
writes_image (count work) = false
writes_image (look_up given) = false
writes_image (store work given value) = true
writes_image (store_writes work given value list) = true
writes_image (mend work) = true
writes_image (next_key work key after buffer) = false
writes_image (counts work tally) = false
writes_image (check_counts work tally) = false
writes_image (store_counts work given value tally) = true
writes_image (key_at work tally at buffer) = false
writes_image (position work tally given) = false

-- the buffers that a call leaves after the first
unfoldable pub rest_left : List (List ℕ) → List (List ℕ)
rest_left [] = []
rest_left (l ∷ rest) = rest

-- the image after a call
unfoldable pub image_after : List ℕ → Call → List ℕ
unfolding outcome_of writes_image first_left
image_after l c = cond (writes_image c) (first_left (outcome_of l c).lent) l

-- what a call leaves in the buffers besides the image
unfoldable pub besides_image : List ℕ → Call → List (List ℕ)
unfolding outcome_of writes_image rest_left
besides_image l c = cond (writes_image c) (rest_left (outcome_of l c).lent) (outcome_of l c).lent

-- the answers of calls that are made one after the other, each on the image that the one before
-- it left
unfoldable pub answers_of : List ℕ → List Call → List Numbers
unfolding outcome_of image_after
answers_of l [] = []
answers_of l (c ∷ cs) = (outcome_of l c).numbers ∷ answers_of (image_after l c) cs

-- ---- the buffers that a call may write

-- a buffer as it is lent
pub data Buffer : Type 0 where
  -- the image, or a buffer for an answer: a key buffer, a list of writes or a list of counts
  answering : (content : List ℕ) → Buffer
  -- the working numbers
  working : (work : List ℕ) → Buffer
  -- the working numbers of a call that takes these counts
  working_with : (tally work : List ℕ) → Buffer

-- the buffers that a call on this image may write, in the sequence of its parameters
unfoldable pub lent_to : List ℕ → Call → List Buffer
lent_to l (make n a d alphabet least most) = answering l ∷ []
lent_to l (check work) = working work ∷ []
lent_to l (count work) = working work ∷ []
lent_to l (look_up given) = []
lent_to l (store work given value) = answering l ∷ working work ∷ []
lent_to l (store_writes work given value list) =
    answering l ∷ working work ∷ answering list ∷ []
lent_to l (mend work) = answering l ∷ working work ∷ []
lent_to l (next_key work key after buffer) = working work ∷ answering buffer ∷ []
lent_to l (counts work tally) = working_with tally work ∷ answering tally ∷ []
lent_to l (check_counts work tally) = working_with tally work ∷ []
lent_to l (store_counts work given value tally) =
    answering l ∷ working_with tally work ∷ answering tally ∷ []
lent_to l (key_at work tally at buffer) = working_with tally work ∷ answering buffer ∷ []
lent_to l (position work tally given) = working_with tally work ∷ []

-- "A refused call changes nothing in the image or in any other lent buffer but the working
-- numbers": what it leaves in a buffer
unfoldable pub refused_leaves : List ℕ → Buffer → List ℕ
unfolding work_after work_left
refused_leaves l (answering content) = content
refused_leaves l (working work) = work_after l work
refused_leaves l (working_with tally work) = work_left l work tally

-- ---- the working numbers

-- of the contents of the buffers, those of the working numbers
unfoldable pub work_in : List Buffer → List (List ℕ) → List (List ℕ)
work_in [] ls = []
work_in (b ∷ bs) [] = []
work_in (answering content ∷ bs) (x ∷ ls) = work_in bs ls
work_in (working work ∷ bs) (x ∷ ls) = x ∷ work_in bs ls
work_in (working_with tally work ∷ bs) (x ∷ ls) = x ∷ work_in bs ls

-- and those of all other buffers
unfoldable pub others_in : List Buffer → List (List ℕ) → List (List ℕ)
others_in [] ls = []
others_in (b ∷ bs) [] = []
others_in (answering content ∷ bs) (x ∷ ls) = x ∷ others_in bs ls
others_in (working work ∷ bs) (x ∷ ls) = others_in bs ls
others_in (working_with tally work ∷ bs) (x ∷ ls) = others_in bs ls

-- the working numbers among the buffers, as they are lent; none where there are none
unfoldable pub work_lent : List Buffer → List ℕ
work_lent [] = []
work_lent (answering content ∷ bs) = work_lent bs
work_lent (working work ∷ bs) = work
work_lent (working_with tally work ∷ bs) = work

-- the same call, lent these working numbers
unfoldable pub with_work : List ℕ → Call → Call
with_work w (make n a d alphabet least most) = make n a d alphabet least most
with_work w (check work) = check w
with_work w (count work) = count w
with_work w (look_up given) = look_up given
with_work w (store work given value) = store w given value
with_work w (store_writes work given value list) = store_writes w given value list
with_work w (mend work) = mend w
with_work w (next_key work key after buffer) = next_key w key after buffer
with_work w (counts work tally) = counts w tally
with_work w (check_counts work tally) = check_counts w tally
with_work w (store_counts work given value tally) = store_counts w given value tally
with_work w (key_at work tally at buffer) = key_at w tally at buffer
with_work w (position work tally given) = position w tally given

-- ---- the buffer for an answer

-- of the contents that are not working numbers and not the image, the first: a key buffer, a list
-- of writes or a list of counts. No call has two of them.
unfoldable pub answer_in : Call → List (List ℕ) → List ℕ
unfolding writes_image first_left rest_left
answer_in c others = first_left (cond (writes_image c) (rest_left others) others)

-- the content of that buffer when the call returns
unfoldable pub answer_after : List ℕ → Call → List ℕ
unfolding answer_in others_in lent_to outcome_of
answer_after l c = answer_in c (others_in (lent_to l c) (outcome_of l c).lent)

-- and as it was lent
unfoldable pub answer_lent : List ℕ → Call → List ℕ
unfolding answer_in others_in lent_to refused_leaves
answer_lent l c = answer_in c (others_in (lent_to l c) (map (refused_leaves l) (lent_to l c)))

-- how many numbers at its front a call is said to write: the letters of the key that it gives, two
-- for each write that it notes, a count for each node of the image that it leaves
unfoldable pub front_of : List ℕ → Call → ℕ
unfolding outcome_of image_after head_of
front_of l (make n a d alphabet least most) = 0
front_of l (check work) = 0
front_of l (count work) = 0
front_of l (look_up given) = 0
front_of l (store work given value) = 0
front_of l (store_writes work given value list) =
    2 * (outcome_of l (store_writes work given value list)).numbers.length
front_of l (mend work) = 0
front_of l (next_key work key after buffer) =
    (outcome_of l (next_key work key after buffer)).numbers.length
front_of l (counts work tally) = (head_of l).g + 1
front_of l (check_counts work tally) = 0
front_of l (store_counts work given value tally) =
    (head_of (image_after l (store_counts work given value tally))).g + 1
front_of l (key_at work tally at buffer) = (outcome_of l
    (key_at work tally at buffer)).numbers.length
front_of l (position work tally given) = 0
