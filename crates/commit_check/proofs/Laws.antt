-- Laws of `specs/Check.antt`: one record, a run of records, all of them. Assumes nothing.
use native.Mathlib.Nat.{not-suc-le-zero}
use native.Mathlib.Numerals.{add-one}
use native.Mathlib.Omega.{arith}
use Prim.Native.Nat.{ℕ, zero, suc, ◌+◌, ◌-◌, ◌*◌, ◌/◌, ◌<◌, ◌≤◌, max}
use mathlib.Core.Path.{◌≡◌, refl, ap, sym, ◌∙◌}
use mathlib.Core.Bool.{Bool, true, false}
use mathlib.Core.List.{List, [], ◌∷◌, ◌++◌, map}
use lib.Dec.{eqb, leb}
use lib.ListN.{length, get_or, drop, length-append, length-map, length-drop}
use lib.Seq.{drop-cons}
use borrow.Author.Tests.{eq-eqb, ne_eqb, eqb-true, le-leb, lt-leb, leb-true}
use Rattle.ground.specs.Basics.{pick}
use Rattle.ground.specs.Verdict.{verdict, fine, gate_of}
use Rattle.ground.proofs.Laws.{and_left, and_right, gate_open, gate_fine}
use Rattle.ground.specs.declared.Verdict.{Verdict}
use Rattle.hex_digits.specs.Hex.{is_hex}
use Rattle.extra_header.specs.Extra.{folded_form}
use Rattle.header.specs.Record.{width, header_at, well_formed, header_value}
use Rattle.header.proofs.Laws.{WellFormed, well_parts}
use Rattle.header.specs.declared.HeaderRecord.{HeaderRecord}
use Rattle.header.specs.declared.CommitParts.{CommitParts}
use Rattle.output.proofs.Laws.{shut-refuses}
use Rattle.unfold.specs.Unfold.{has_form}
use Rattle.unfold.proofs.Laws.{form-any, form_folded}
use Rattle.grammar.specs.Named.{id_named, records_from}
use Rattle.commit_check.specs.Sound.{Sound}
use Rattle.commit_check.specs.Check.{headers_of, ranged, id_fits, encoding_fits, header_fits, tests, late_tests, last_tests, passing, judged, after, checked}
use Rattle.std.specs.Prelude.{Err, Ok, Result, ⊤}

-- ---- one record

module _ (from to len : ℕ) where
  pub range-parts : ranged from to len ≡ true → (from ≤ to) × (to ≤ len)
  unfolding ranged
  range-parts e = (leb-true from to (and_left (leb from to) (leb to len) e), leb-true to len (and_right (leb from to) (leb to len) e))

module _ (h : ℕ) (bytes : List ℕ) (at : ℕ) where
  pub id-long : length bytes < at + 2 * h → id_fits h bytes at ≡ false
  unfolding id_fits
  id-long p = simp (lt-leb (at + 2 * h) (length bytes) p)

  pub id-is : at + 2 * h ≤ length bytes → id_fits h bytes at ≡ is_hex (id_named h bytes at)
  unfolding id_fits
  id-is p = simp (le-leb (at + 2 * h) (length bytes) p)

  pub id-inside : id_fits h bytes at ≡ true → at + 2 * h ≤ length bytes
  unfolding id_fits
  id-inside e = leb-true (at + 2 * h) (length bytes) (and_left (leb (at + 2 * h) (length bytes)) (is_hex (id_named h bytes at)) e)

  pub id-hex : id_fits h bytes at ≡ true → is_hex (id_named h bytes at) ≡ true
  unfolding id_fits
  id-hex e = and_right (leb (at + 2 * h) (length bytes)) (is_hex (id_named h bytes at)) e

module _ (len : ℕ) (p : CommitParts) where
  pub encoding-none : p.encoding ≡ 0 → encoding_fits len p ≡ true
  unfolding encoding_fits
  encoding-none e = simp (eq-eqb p.encoding 0 e)

  pub encoding-one : p.encoding ≡ 1 → encoding_fits len p ≡ ranged p.encoding_start p.encoding_end len
  unfolding encoding_fits
  encoding-one e = simp (ne_eqb p.encoding 0 (λ z. omega (arith, e)), eq-eqb p.encoding 1 e)

module _ (bytes : List ℕ) (x : HeaderRecord) where
  pub header-bad : well_formed x (length bytes) ≡ false → header_fits bytes x ≡ false
  unfolding header_fits
  header-bad w = simp w

  module _ (w : well_formed x (length bytes) ≡ true) where
    pub header-one : x.mark ≡ 1 → header_fits bytes x ≡ folded_form (header_value bytes x)
    unfolding header_fits
    header-one e = rw (w, form_folded x.mark (header_value bytes x) e)

    pub header_other : (x.mark ≡ 1 → ⊥) → header_fits bytes x ≡ true
    unfolding header_fits
    header_other e = rw (w, form-any x.mark (header_value bytes x) e)

  pub header-well : header_fits bytes x ≡ true → WellFormed x (length bytes)
  unfolding header_fits
  header-well e = well_parts x (length bytes) (and_left (well_formed x (length bytes)) (has_form x.mark (header_value bytes x)) e)

  pub header-form : header_fits bytes x ≡ true → has_form x.mark (header_value bytes x) ≡ true
  unfolding header_fits
  header-form e = and_right (well_formed x (length bytes)) (has_form x.mark (header_value bytes x)) e

-- ---- a run of records

pub passing_le : (l : List Bool) → passing l ≤ length l
passing_le [] = omega arith
passing_le (true ∷ l) = omega (arith, passing_le l)
passing_le (false ∷ l) = omega arith

-- in a row: the first run stops, or it goes on with the second
pub passing-cut : (a b : List Bool) → passing a < length a → passing (a ++ b) ≡ passing a
passing-cut [] b p = absurd (not-suc-le-zero p)
passing-cut (true ∷ a) b p = ap suc (passing-cut a b (omega arith))
passing-cut (false ∷ a) b p = refl

pub passing_on : (a b : List Bool) → length a ≤ passing a → passing (a ++ b) ≡ length a + passing b
passing_on [] b p = omega arith
passing_on (true ∷ a) b p = omega (arith, passing_on a b (omega arith))
passing_on (false ∷ a) b p = absurd (omega arith)

-- the lent headers from an index on, n in all
module _ (l : List ℕ) (n i : ℕ) where
  pub records_end : n ≤ i → records_from i (n - i) l ≡ []
  unfolding records_from
  records_end p = let z : n - i ≡ 0 = omega arith in rw z

  pub records-more : i < n → records_from i (n - i) l ≡ header_at l i ∷ records_from (i + 1) (n - (i + 1)) l
  unfolding records_from
  records-more p = let z : n - i ≡ suc (n - (i + 1)) = omega arith in rw z

pub records-length : (i n : ℕ) (l : List ℕ) → length (records_from i n l) ≡ n
unfolding records_from
records-length i zero l = refl
records-length i (suc n) l = ap suc (records-length (i + 1) n l)

module _ (f : HeaderRecord → Bool) (l : List ℕ) (n i : ℕ) where
  pub heads_end : n ≤ i → passing (map f (records_from i (n - i) l)) ≡ 0
  heads_end p = rw (records_end l n i p)

  pub heads-bad : i < n → (x : HeaderRecord) → x ≡ header_at l i → f x ≡ false → passing (map f (records_from i (n - i) l)) ≡ 0
  heads-bad p x q e = rw (records-more l n i p, ← q, e)

  pub heads-more : i < n → (x : HeaderRecord) → x ≡ header_at l i → f x ≡ true
      → passing (map f (records_from i (n - i) l)) ≡ suc (passing (map f (records_from (i + 1) (n - (i + 1)) l)))
  heads-more p x q e = rw (records-more l n i p, ← q, e)

-- ---- the verdict on a row

module _ (l : List Bool) where
  pub judged-stop : (k : ℕ) → k ≡ passing l → k < length l → judged l ≡ verdict 10 k
  unfolding judged
  judged-stop k e p = rw (← e) (simp (ne_eqb k (length l) (λ z. omega arith)))

  pub judged-fine : length l ≤ passing l → judged l ≡ fine
  unfolding judged
  judged-fine p = simp (eq-eqb (passing l) (length l) (omega (arith, passing_le l)))

  pub judged-passes : (judged l).number ≡ 0 → passing l ≡ length l
  unfolding judged
  judged-passes = go (eqb (passing l) (length l)) refl
    where
      go : (b : Bool) → eqb (passing l) (length l) ≡ b → (pick b fine (verdict 10 (passing l))).number ≡ 0 → passing l ≡ length l
      go true e z = eqb-true (passing l) (length l) e
      go false e z = absurd (omega arith)

-- ---- records after others, n of which pass

module _ (n : ℕ) (a : Bool) (l : List Bool) where
  first-bad : a ≡ false → n + passing (a ∷ l) ≡ n
  first-bad e = rw e (omega arith)

  first_good : a ≡ true → n + passing (a ∷ l) ≡ n + 1 + passing l
  first_good e = rw e (omega arith)

-- encoding, headers and message: k of the headers pass
module _ (bytes : List ℕ) (p : CommitParts) (headers : List ℕ) where
  abbrev heads : List Bool
  heads = map (header_fits bytes) (headers_of headers)

  abbrev message : List Bool
  message = ranged p.message_start p.message_end (length bytes) ∷ []

  heads-length : length heads ≡ length headers / width
  heads-length = length-map (headers_of headers) (header_fits bytes) ∙ records-length 0 (length headers / width) headers

  pub last-encoding : (n : ℕ) → encoding_fits (length bytes) p ≡ false → n + passing (last_tests bytes p (headers_of headers)) ≡ n
  last-encoding n e = first-bad n (encoding_fits (length bytes) p) (heads ++ message) e

  module _ (n : ℕ) (e : encoding_fits (length bytes) p ≡ true) (k : ℕ) (q : k ≡ passing heads) where
    given-encoding : n + passing (last_tests bytes p (headers_of headers)) ≡ n + 1 + passing (heads ++ message)
    given-encoding = first_good n (encoding_fits (length bytes) p) (heads ++ message) e

    pub last-header : k < length headers / width → n + passing (last_tests bytes p (headers_of headers)) ≡ n + 1 + k
    last-header h = given-encoding ∙ omega (arith, q, passing-cut heads message (omega (arith, q, heads-length)))

    module _ (h : length headers / width ≤ k) where
      all-headers : n + passing (last_tests bytes p (headers_of headers)) ≡ n + 1 + length headers / width + passing message
      all-headers = given-encoding ∙ omega (arith, heads-length, passing_on heads message (omega (arith, q, heads-length)))

      pub last-message : ranged p.message_start p.message_end (length bytes) ≡ false
          → n + passing (last_tests bytes p (headers_of headers)) ≡ n + 1 + length headers / width
      last-message f = all-headers ∙ first-bad (n + 1 + length headers / width) (ranged p.message_start p.message_end (length bytes)) [] f

      pub last-whole : ranged p.message_start p.message_end (length bytes) ≡ true
          → n + passing (last_tests bytes p (headers_of headers)) ≡ n + 2 + length headers / width
      last-whole f =
          all-headers ∙ first_good (n + 1 + length headers / width) (ranged p.message_start p.message_end (length bytes)) [] f ∙ omega arith

-- author, committer and these
module _ (bytes : List ℕ) (p : CommitParts) (headers : List ℕ) (n : ℕ) where
  abbrev author : Bool
  author = ranged p.author_start p.author_end (length bytes)

  abbrev committer : Bool
  committer = ranged p.committer_start p.committer_end (length bytes)

  pub late_author : author ≡ false → n + passing (late_tests bytes p (headers_of headers)) ≡ n
  late_author e = first-bad n author (committer ∷ last_tests bytes p (headers_of headers)) e

  module _ (e : author ≡ true) where
    pub late_committer : committer ≡ false → n + passing (late_tests bytes p (headers_of headers)) ≡ n + 1
    late_committer f =
        first_good n author (committer ∷ last_tests bytes p (headers_of headers)) e ∙ first-bad (n + 1) committer (last_tests bytes p (headers_of headers)) f

    pub late_on : committer ≡ true → (r : ℕ) → r ≡ n + 2 + passing (last_tests bytes p (headers_of headers))
        → n + passing (late_tests bytes p (headers_of headers)) ≡ r
    late_on f r q =
        first_good n author (committer ∷ last_tests bytes p (headers_of headers)) e
        ∙ first_good (n + 1) committer (last_tests bytes p (headers_of headers)) f
        ∙ omega (arith, q)

-- ---- all records in turn: each that may be the first not to pass

module _ (h : ℕ) (bytes : List ℕ) (p : CommitParts) (parents headers : List ℕ) where
  abbrev ids : List Bool
  ids = map (id_fits h bytes) parents

  abbrev late : List Bool
  late = late_tests bytes p (headers_of headers)

  abbrev row : List Bool
  row = tests h bytes p parents (headers_of headers)

  ids_length : length ids ≡ length parents
  ids_length = length-map parents (id_fits h bytes)

  pub row-length : length row ≡ length parents + 5 + length headers / width
  row-length =
      omega (
        arith,
        length-append ids late,
        length-append (heads bytes p headers) (message bytes p headers),
        ids_length,
        heads-length bytes p headers,
      )

  pub row-tree : id_fits h bytes p.tree ≡ false → passing row ≡ 0
  row-tree x = rw x

  module _ (x : id_fits h bytes p.tree ≡ true) (i : ℕ) (j : i ≡ passing ids) where
    pub row_parent : i < length parents → passing row ≡ i + 1
    row_parent q = rw x (omega (arith, passing-cut ids late (omega (arith, ids_length))))

    pub row_late : length parents ≤ i → (r : ℕ) → r ≡ length parents + 1 + passing late → passing row ≡ r
    row_late y r q = rw x (omega (arith, passing_on ids late (omega (arith, ids_length)), ids_length))

  -- ---- behind the gate

  module _ (room longest most : ℕ) (e : longest ≡ max (length bytes) room) (f : most ≡ max (length parents) (length headers / width)) where
    pub checked-shut : (v : Verdict) → gate_of h longest most ≡ Err v → checked h bytes p parents headers room ≡ v
    unfolding checked after
    checked-shut v g = rw (← e, ← f, g)

    pub checked_open : gate_of h longest most ≡ Ok tt → checked h bytes p parents headers room ≡ judged row
    unfolding checked after
    checked_open g = rw (← e, ← f, g)

    module _ (g : gate_of h longest most ≡ Ok tt) (k : ℕ) (q : k ≡ passing row) where
      pub checked-stop : k < length parents + 5 + length headers / width → checked h bytes p parents headers room ≡ verdict 10 k
      checked-stop l = checked_open g ∙ judged-stop row k q (rw row-length l)

      pub checked-fine : length parents + 5 + length headers / width ≤ k → checked h bytes p parents headers room ≡ fine
      checked-fine l = checked_open g ∙ judged-fine row (rw (row-length, ← q) l)

-- ---- a commit that passes

pub pass-first : (t : Bool) (l : List Bool) → passing (t ∷ l) ≡ suc (length l) → (t ≡ true) × (passing l ≡ length l)
pass-first true l e = (refl, omega arith)
pass-first false l e = absurd (omega arith)

pass_both : (a b : List Bool) → passing (a ++ b) ≡ length (a ++ b) → (passing a ≡ length a) × (passing b ≡ length b)
pass_both [] b e = (refl, e)
pass_both (t ∷ a) b e =
    let k = pass-first t (a ++ b) e in
    let l = pass_both a b k.1 in
    (rw k.0 (ap suc l.0), l.1)

module _ (h : ℕ) (bytes : List ℕ) (p : CommitParts) (parents headers : List ℕ) (room : ℕ) where
  -- the gate was open, and every record passes
  passed : gate_of h (max (length bytes) room) (max (length parents) (length headers / width)) ≡ Ok tt → passing (row h bytes p parents headers) ≡ length (row h bytes p parents headers)
      → Sound h bytes p parents headers room
  passed g e =
      let o = gate_open h (max (length bytes) room) (max (length parents) (length headers / width)) g in
      let a = pass-first (id_fits h bytes p.tree) (ids h bytes p parents headers ++ late h bytes p parents headers) e in
      let b = pass_both (ids h bytes p parents headers) (late h bytes p parents headers) a.1 in
      let l = heads bytes p headers ++ message bytes p headers in
      let m = ranged p.committer_start p.committer_end (length bytes) in
      let c = pass-first (ranged p.author_start p.author_end (length bytes)) (m ∷ encoding_fits (length bytes) p ∷ l) b.1 in
      let d = pass-first m (encoding_fits (length bytes) p ∷ l) c.1 in
      let f = pass-first (encoding_fits (length bytes) p) l d.1 in
      let i = pass_both (heads bytes p headers) (message bytes p headers) f.1 in
      let j = pass-first (ranged p.message_start p.message_end (length bytes)) [] i.1 in
      record {
        id_length = o.0;
        bytes_most = omega (arith, o.1);
        room_most = omega (arith, o.1);
        parents_most = omega (arith, o.2);
        headers_most = omega (arith, o.2);
        tree = a.0;
        parents_pass = b.0 ∙ ids_length h bytes p parents headers;
        author = c.0;
        committer = d.0;
        encoding = f.0;
        headers_pass = i.0 ∙ heads-length bytes p headers;
        message = j.0;
      }

  pub checked-sound : (checked h bytes p parents headers room).number ≡ 0 → Sound h bytes p parents headers room
  checked-sound z = go (gate_of h longest most) refl
    where
      longest : ℕ
      longest = max (length bytes) room

      most : ℕ
      most = max (length parents) (length headers / width)

      go : (g : Result ⊤ Verdict) → gate_of h longest most ≡ g → Sound h bytes p parents headers room
      go (Ok tt) e =
          passed e (judged-passes (row h bytes p parents headers) (ap (λ (v : Verdict). v.number) (sym (checked_open h bytes p parents headers room longest most refl refl e)) ∙ z))
      go (Err v) e = absurd (shut-refuses h longest most v e (ap (λ (u : Verdict). u.number) (sym (checked-shut h bytes p parents headers room longest most refl refl v e)) ∙ z))

-- and such a commit is not refused
pub sound-checked : (h : ℕ) (bytes : List ℕ) (p : CommitParts) (parents headers : List ℕ) (room : ℕ) → Sound h bytes p parents headers room
    → checked h bytes p parents headers room ≡ fine
sound-checked h bytes p parents headers room s =
    checked-fine h bytes p parents headers room _ _ refl refl
    (gate_fine h (max (length bytes) room) (max (length parents) (length headers / width)) s.id_length
    (omega (arith, s.bytes_most, s.room_most)) (omega (arith, s.parents_most, s.headers_most)))
    (length parents + 5 + length headers / width)
    (sym (row_late h bytes p parents headers s.tree (length parents) (sym s.parents_pass) (omega arith) (length parents + 5 + length headers / width) rest))
    (omega arith)
  where
    last : length parents + 3 + passing (last_tests bytes p (headers_of headers)) ≡ length parents + 3 + 2 + length headers / width
    last = last-whole bytes p headers (length parents + 3) s.encoding (length headers / width) (sym s.headers_pass) (omega arith) s.message

    rest : length parents + 5 + length headers / width ≡ length parents + 1 + passing (late_tests bytes p (headers_of headers))
    rest =
        sym (late_on bytes p headers (length parents + 1) s.author s.committer (length parents + 5 + length headers / width) (omega (arith, last)))

-- ---- one after another of records that all pass

pub parents-step : (f : ℕ → Bool) (l : List ℕ) (i : ℕ) → i < length l → passing (map f (drop i l)) ≡ length l - i
    → (f (get_or l i 0) ≡ true) × (passing (map f (drop (i + 1) l)) ≡ length l - (i + 1))
parents-step f l i p e =
    let d : drop i l ≡ get_or l i 0 ∷ drop (i + 1) l = rw (add-one i) (drop-cons l i 0 p) in
    let n : length (map f (drop (i + 1) l)) ≡ length l - (i + 1) = length-map (drop (i + 1) l) f ∙ length-drop (i + 1) l in
    let k = pass-first (f (get_or l i 0)) (map f (drop (i + 1) l)) (ap (λ (t : List ℕ). passing (map f t)) (sym d) ∙ e ∙ omega (arith, n)) in
    (k.0, k.1 ∙ n)

pub headers-step : (f : HeaderRecord → Bool) (l : List ℕ) (n i : ℕ) → i < n → passing (map f (records_from i (n - i) l)) ≡ n - i
    → (f (header_at l i) ≡ true) × (passing (map f (records_from (i + 1) (n - (i + 1)) l)) ≡ n - (i + 1))
headers-step f l n i p e =
    let m : length (map f (records_from (i + 1) (n - (i + 1)) l)) ≡ n - (i + 1) = length-map (records_from (i + 1) (n - (i + 1)) l) f ∙ records-length (i + 1) (n - (i + 1)) l in
    let k = pass-first (f (header_at l i)) (map f (records_from (i + 1) (n - (i + 1)) l)) (ap (λ (t : List HeaderRecord). passing (map f t)) (sym (records-more l n i p)) ∙ e ∙ omega (arith, m)) in
    (k.0, k.1 ∙ m)
