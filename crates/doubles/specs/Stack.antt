-- The open names in an array, the longest last, and what one entry does to it. Assumes nothing.
use Rattle.std.specs.Prelude.{ℕ, zero, suc, ◌+◌, ◌%◌, min, Bool, ◌&&◌, ◌||◌, List, [], ◌∷◌, length, get_or, set, ltb, Err, Ok, Result}
use Rattle.ground.specs.Basics.{pick}
use Rattle.ground.specs.Scan.{common_start}
use Rattle.order.specs.Order.{name_order}
use Rattle.doubles.specs.Doubles.{top_is}
use Rattle.doubles.specs.declared.Misplaced.{Misplaced}
use Rattle.doubles.specs.declared.Misplaced.TheVariants.{Double, NotAfter}
use Rattle.std.specs.declared.cmp.Ordering.{Ordering}
use Rattle.std.specs.declared.cmp.Ordering.TheVariants.{Equal, Greater, Less}

-- the first n of the array, the last of them first
unfoldable pub stack_of : List ℕ → ℕ → List ℕ
stack_of a zero = []
stack_of a (suc n) = get_or a n 0 ∷ stack_of a n

-- how many of the first n stay, where those above p go
unfoldable pub kept_of : List ℕ → ℕ → ℕ → ℕ
kept_of a p zero = zero
kept_of a p (suc n) = pick (ltb p (get_or a n 0)) (kept_of a p n) (suc n)

-- a name of len bytes, of which the next name shares p: a folder's, or one with which the next does not begin, opens nothing; another is put on top
unfoldable pub open_at : List ℕ → ℕ → ℕ → ℕ → Bool → ℕ
open_at a n p len was = pick (was || ltb p len) (kept_of a p n) (pick (ltb n (length a)) (n + 1) n)

unfoldable pub marks_at : List ℕ → ℕ → ℕ → ℕ → Bool → List ℕ
marks_at a n p len was = pick (was || ltb p len) a (set a n (len % 4294967296))

-- a folder, and its length is the longest of the first k
unfoldable pub is_double : List ℕ → ℕ → ℕ → Bool → Bool
is_double a k len folder = folder && top_is len (stack_of a k)

-- the first where the order says below, else the second
abbrev pub if_below : {A : Type 0} → Ordering → A → A → A
if_below Less x y = x
if_below Equal x y = y
if_below Greater x y = y

-- an entry of size bytes that stands after one of len bytes, of which it shares p: Double, or fine with so many names open
unfoldable pub open_of : List ℕ → ℕ → ℕ → ℕ → Bool → ℕ → Bool → Result ℕ Misplaced
open_of a n p len was size folder =
    let m = min n (length a) in
    pick (is_double (marks_at a m p len was) (open_at a m p len was) size folder) (Err Double) (Ok (open_at a m p len was))

-- an entry after one whose name is at hand
unfoldable pub place_of : List ℕ → ℕ → List ℕ → Bool → List ℕ → Bool → Result ℕ Misplaced
place_of a n last was name folder =
    let m = min n (length a) in
    let p = common_start last name in
    if_below (name_order last was name folder)
    (pick (is_double (marks_at a m p (length last) was) (open_at a m p (length last) was) (length name) folder) (Err Double) (Ok (open_at a m p (length last) was))) (Err NotAfter)

unfoldable pub marks_of : List ℕ → ℕ → List ℕ → Bool → List ℕ → Bool → List ℕ
marks_of a n last was name folder = if_below (name_order last was name folder) (marks_at a (min n (length a)) (common_start last name) (length last) was) a
