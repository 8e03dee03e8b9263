-- Laws of the bytes of a commit and of the answers, which the proofs of the functions cite. Assumes nothing.
use native.Mathlib.Nat.{suc-mul}
use native.Mathlib.Numerals.{add-one}
use native.Mathlib.Omega.{arith}
use Prim.Native.Nat.{ℕ, suc, ◌+◌, ◌-◌, ◌*◌, ◌/◌, ◌<◌, ◌≤◌}
use mathlib.Core.Path.{◌≡◌, ap, sym, ◌∙◌}
use mathlib.Core.Bool.{Bool, true, false}
use mathlib.Core.List.{List, [], ◌∷◌, ◌++◌, map}
use mathlib.Core.Logic.{⊎_elim}
use lib.Dec.{eqb}
use lib.ListN.{length, get_or, drop, set, length-append, length-map, drop_of_length-le}
use lib.Seq.{sets, drop-cons, append_snoc}
use borrow.Author.Tests.{eq-eqb, ne_eqb}
use Rattle.ground.specs.Basics.{pick, part}
use Rattle.ground.specs.Verdict.{verdict, counted, refused, most_bytes, most_records}
use Rattle.ground.specs.declared.Verdict.{Verdict}
use Rattle.ground.specs.declared.Answer.{Answer}
use Rattle.ground.proofs.Laws.{equal, id_small, sets_append}
use Rattle.output.specs.Output.{fitted}
use Rattle.output.proofs.Laws.{sets-ended, fitted-bad}
pub use Rattle.hex_digits.proofs.Laws.{digit_low, digit_high, digit_letter}
pub use Rattle.commit_value.proofs.Laws.{Left, left_all, left-next, left-none}
use Rattle.header.specs.Words.{tree_word, parent_word, author_word, committer_word, encoding_word}
use Rattle.header.specs.Record.{width, header_at, name_of, header_value}
use Rattle.header.specs.declared.HeaderRecord.{HeaderRecord}
use Rattle.header.specs.declared.CommitParts.{CommitParts}
use Rattle.grammar.specs.Grammar.{absent, given, line, parents_bytes, encoding_bytes}
use Rattle.grammar.specs.Named.{id_named, header_named, records_from}
use Rattle.grammar.proofs.Laws.{part_length, line-length}
use Rattle.commit_check.specs.Check.{headers_of, ranged, id_fits, encoding_fits, header_fits, passing, checked}
use Rattle.commit_check.specs.Sound.{Sound}
use Rattle.commit_check.proofs.Laws.{checked-sound, sound-checked, pass-first, records-length, id-inside, range-parts, encoding-one, header-well, records_end, records-more}
use Rattle.commit_value.specs.Fold.{fold_value, value_written, most_place, value_at}
use Rattle.commit_value.proofs.Laws.{fold_le, value_inside}
use Rattle.commit_write.specs.Written.{lower_digit, lower_hex, header_written, headers_written, commit_written}
use Rattle.commit_write.specs.Write.{encoding_named, parts_written, measured, encoding_refusal, encoded, commit_answer}

-- ---- pieces stored one after another

-- after storing a piece at a place: what the output holds, and the place past it
pub record Put (l : List ℕ) (at : ℕ) (p m : List ℕ) (to : ℕ) : Type 0 where
  pub holds : m ≡ sets l at p
  pub past : to ≡ at + length p

-- what a store promises, as a piece that was put
put_of : (l : List ℕ) (at : ℕ) (p m : List ℕ) (to : ℕ) → to ≡ at + length p → m ≡ sets l at p → Put l at p m to
put_of l at p m to q e = record { holds = e; past = q }

pub put_then : {l : List ℕ} {at : ℕ} {p m : List ℕ} {to : ℕ} {q r : List ℕ} {next : ℕ} → Put l at p m to → Put m to q r next → Put l at (p ++ q) r next
put_then {l} {at} {p} {m} {to} {q} {r} {next} a b =
    record {
      holds = b.holds ∙ rw (a.holds, a.past) (sym (sets_append l at p q));
      past = omega (arith, length-append p q, a.past, b.past);
    }

-- the places of a line are numbers: its word, a space, its value and an LF
pub line-places : (at n v : ℕ) → at + (n + v + 2) < 18446744073709551616
    → (v < 18446744073709551616) × (at + n < 18446744073709551616) × (at + n + 1 < 18446744073709551616) × (at + n + 1 + v < 18446744073709551616)
    × (at + n + 1 + v + 1 < 18446744073709551616)
line-places at n v g = (omega arith, omega arith, omega arith, omega arith, omega arith)

-- ---- digits from a place on

module _ (d : List ℕ) (i : ℕ) where
  pub digits-end : length d ≤ i → lower_hex (drop i d) ≡ []
  digits-end p = rw (drop_of_length-le d {i = i} p)

  pub digits_more : i < length d → lower_hex (drop i d) ≡ lower_digit (get_or d i 0) ∷ lower_hex (drop (i + 1) d)
  digits_more p = rw (add-one i, drop-cons d i 0 p)

-- ---- a line: word and space, value and LF

pub line-pieces : (w v : List ℕ) → (w ++ 32 ∷ []) ++ (v ++ 10 ∷ []) ≡ line w v
line-pieces w v = append_snoc w 32 (v ++ 10 ∷ [])

pub line-put : (l m r w v : List ℕ) (at from end : ℕ) → from ≡ at + length w + 1 → end ≡ from + length v + 1
    → m ≡ sets l at (w ++ 32 ∷ []) → r ≡ sets m from (v ++ 10 ∷ []) → Put l at (line w v) r end
line-put l m r w v at from end p q e f =
    let a : from ≡ at + length (w ++ 32 ∷ []) = omega (arith, length-append w (32 ∷ [])) in
    let b : end ≡ from + length (v ++ 10 ∷ []) = omega (arith, length-append v (10 ∷ [])) in
    let x : Put l at (w ++ 32 ∷ []) m from = record { holds = e; past = a } in
    let y : Put m from (v ++ 10 ∷ []) r end = record { holds = f; past = b } in
    let k : Put l at ((w ++ 32 ∷ []) ++ (v ++ 10 ∷ [])) r end = put_then x y in
    rw (line-pieces w v) at k

-- the same of a value in a range
pub range_put : (l m r w bytes : List ℕ) (at value end from to : ℕ) → from ≤ to → to ≤ length bytes → value ≡ at + length w + 1 → end ≡ value + (to - from) + 1
    → m ≡ sets l at (w ++ 32 ∷ []) → r ≡ sets m value (part from to bytes ++ 10 ∷ []) → Put l at (line w (part from to bytes)) r end
range_put l m r w bytes at value end from to p q e d f g =
    line-put l m r w (part from to bytes) at value end e (omega (arith, part_length bytes from to p q)) f g

-- a piece that lies in a range, and one byte after it
pub ended-put : (l m bytes : List ℕ) (at from to end b : ℕ) → from ≤ to → to ≤ length bytes → end ≡ at + (to - from) + 1
    → m ≡ sets l at (part from to bytes ++ b ∷ []) → (end ≡ at + length (part from to bytes ++ b ∷ [])) × (m ≡ sets l at (part from to bytes ++ b ∷ []))
ended-put l m bytes at from to end b p q e f = (omega (arith, e, length-append (part from to bytes) (b ∷ []), part_length bytes from to p q), f)

-- the same of an id: its digits, then LF
pub id-put : (l m n r w d : List ℕ) (at from last end k : ℕ) → length d ≡ k → from ≡ at + length w + 1 → last ≡ from + k → end ≡ last + 1
    → m ≡ sets l at (w ++ 32 ∷ []) → n ≡ sets m from (lower_hex d) → r ≡ set n last 10 → Put l at (line w (lower_hex d)) r end
id-put l m n r w d at from last end k c p q z e f g =
    let a : last ≡ from + length (lower_hex d) = omega (arith, length-map d lower_digit) in
    line-put l m r w (lower_hex d) at from end p (omega (arith, a)) e (g ∙ rw (f, a) (sym (sets-ended m from (lower_hex d) 10)))

-- an LF, then a piece
pub after-lf : (l m r v : List ℕ) (at end k : ℕ) → length v ≡ k → end ≡ at + 1 + k → m ≡ set l at 10 → r ≡ sets m (at + 1) v → Put l at (10 ∷ v) r end
after-lf l m r v at end k c q e f = record { holds = f ∙ rw (e, add-one at); past = omega arith }

-- an id of 2H digits that lies inside
pub named-length : (h : ℕ) (bytes : List ℕ) (from : ℕ) → from + 2 * h ≤ length bytes → length (id_named h bytes from) ≡ 2 * h
named-length h bytes from p = part_length bytes from (from + 2 * h) (omega arith) p ∙ omega arith

-- ---- a header

module _ (bytes : List ℕ) (x : HeaderRecord) where
  header-pieces : header_written (header_named bytes x) ≡ (name_of bytes x ++ 32 ∷ []) ++ value_written x.mark (header_value bytes x)
  unfolding header_written
  header-pieces = sym (append_snoc (name_of bytes x) 32 (value_written x.mark (header_value bytes x)))

  pub name-length : header_fits bytes x ≡ true → length (name_of bytes x) ≡ x.name_end - x.name_start
  name-length f = let w = header-well bytes x f in part_length bytes x.name_start x.name_end w.name_forward w.name_inside

  pub value-length : header_fits bytes x ≡ true → length (header_value bytes x) ≡ x.value_end - x.value_start
  value-length f = let w = header-well bytes x f in part_length bytes x.value_start x.value_end w.value_forward w.value_inside

  -- so no sum of sizes leaves 64 bits
  pub header_le : header_fits bytes x ≡ true → length bytes ≤ most_bytes → length (header_written (header_named bytes x)) ≤ 3221225474
  unfolding header_written
  header_le f p =
      go (eqb x.mark 1) (length-append (name_of bytes x) (32 ∷ pick (eqb x.mark 1) (header_value bytes x) (fold_value (header_value bytes x))))
    where
      go : (t : Bool) → length (name_of bytes x ++ 32 ∷ pick t (header_value bytes x) (fold_value (header_value bytes x)))
          ≡ length (name_of bytes x) + suc (length (pick t (header_value bytes x) (fold_value (header_value bytes x))))
          → length (name_of bytes x ++ 32 ∷ pick t (header_value bytes x) (fold_value (header_value bytes x))) ≤ 3221225474
      go true q = let w = header-well bytes x f in omega (arith, q, name-length f, value-length f, w)
      go false q = let w = header-well bytes x f in omega (arith, q, name-length f, value-length f, w, fold_le (header_value bytes x))

  -- what its name and its value ask where they are stored
  module _ (f : header_fits bytes x ≡ true) (p : length bytes ≤ most_bytes) (at : ℕ) (m : at + 3221225474 ≤ most_place) where
    pub name-room : ((x.name_start ≤ x.name_end) × (x.name_end ≤ length bytes)) × (at + (x.name_end - x.name_start) + 1 < 18446744073709551616)
    name-room = let w = header-well bytes x f in ((w.name_forward, w.name_inside), omega (arith, w.name_inside))

    -- stored: name and space, then the value
    pub header-put : (l n r : List ℕ) (value end : ℕ) → value ≡ at + length (name_of bytes x ++ 32 ∷ []) → n ≡ sets l at (name_of bytes x ++ 32 ∷ [])
        → end ≡ value + length (value_at value x.mark (header_value bytes x)) → r ≡ sets n value (value_at value x.mark (header_value bytes x))
        → (end ≡ at + length (header_written (header_named bytes x))) × (r ≡ sets l at (header_written (header_named bytes x)))
    header-put l n r value end a b d g =
        let w = header-well bytes x f in
        let near : value ≤ most_place = omega (arith, a, length-append (name_of bytes x) (32 ∷ []), name-length f, w.name_inside) in
        let short : length (header_value bytes x) ≤ most_bytes = omega (arith, value-length f, w.value_inside) in
        let e = value_inside value x.mark (header_value bytes x) near short in
        let k : Put l at ((name_of bytes x ++ 32 ∷ []) ++ value_written x.mark (header_value bytes x)) r end =
        put_then (put_of l at (name_of bytes x ++ 32 ∷ []) n value a b) (put_of n value (value_written x.mark (header_value bytes x)) r end (rw e at d) (rw e at g)) in
        let q : Put l at (header_written (header_named bytes x)) r end = rw header-pieces k in
        (q.past, q.holds)

-- ---- the parents from an index on

module _ (h : ℕ) (bytes parents : List ℕ) (i : ℕ) where
  pub parents-none : length parents ≤ i → parents_bytes (map lower_hex (map (id_named h bytes) (drop i parents))) ≡ []
  unfolding parents_bytes
  parents-none p = rw (drop_of_length-le parents {i = i} p)

  pub parents-next : i < length parents
      → parents_bytes (map lower_hex (map (id_named h bytes) (drop i parents)))
      ≡ line parent_word (lower_hex (id_named h bytes (get_or parents i 0))) ++ parents_bytes (map lower_hex (map (id_named h bytes) (drop (i + 1) parents)))
  unfolding parents_bytes
  parents-next p = rw (add-one i, drop-cons parents i 0 p)

-- an id has 2H digits
pub id_length : (h : ℕ) (bytes : List ℕ) (at : ℕ) → id_fits h bytes at ≡ true → length (id_named h bytes at) ≡ 2 * h
id_length h bytes at f = named-length h bytes at (id-inside h bytes at f)

pub id-line_le : (h : ℕ) (bytes : List ℕ) (at : ℕ) → h ≤ 32 → id_fits h bytes at ≡ true → length (line parent_word (lower_hex (id_named h bytes at))) ≤ 72
id-line_le h bytes at p f =
    omega (arith, line-length parent_word (lower_hex (id_named h bytes at)), length-map (id_named h bytes at) lower_digit, id_length h bytes at f)

pub parents_le : (h : ℕ) (bytes ps : List ℕ) → h ≤ 32 → passing (map (id_fits h bytes) ps) ≡ length ps
    → length (parents_bytes (map lower_hex (map (id_named h bytes) ps))) ≤ length ps * 72
unfolding parents_bytes
parents_le h bytes [] p e = omega arith
parents_le h bytes (x ∷ ps) p e =
    let k = pass-first (id_fits h bytes x) (map (id_fits h bytes) ps) (e ∙ ap suc (sym (length-map ps (id_fits h bytes)))) in
    omega (
      arith,
      length-append (line parent_word (lower_hex (id_named h bytes x))) (parents_bytes (map lower_hex (map (id_named h bytes) ps))),
      id-line_le h bytes x p k.0,
      parents_le h bytes ps p (k.1 ∙ length-map ps (id_fits h bytes)),
      suc-mul (length ps) 72,
    )

-- ---- the headers from an index on, n in all

module _ (bytes headers : List ℕ) (n i : ℕ) where
  pub headers-none : n ≤ i → headers_written (map (header_named bytes) (records_from i (n - i) headers)) ≡ []
  unfolding headers_written
  headers-none p = rw (records_end headers n i p)

  pub headers-next : i < n → (x : HeaderRecord) → x ≡ header_at headers i
      → headers_written (map (header_named bytes) (records_from i (n - i) headers))
      ≡ header_written (header_named bytes x) ++ headers_written (map (header_named bytes) (records_from (i + 1) (n - (i + 1)) headers))
  unfolding headers_written
  headers-next p x q = rw (records-more headers n i p, ← q)

pub headers_le : (bytes : List ℕ) (xs : List HeaderRecord) → length bytes ≤ most_bytes → passing (map (header_fits bytes) xs) ≡ length xs
    → length (headers_written (map (header_named bytes) xs)) ≤ length xs * 3221225474
unfolding headers_written
headers_le bytes [] p e = omega arith
headers_le bytes (x ∷ xs) p e =
    let k = pass-first (header_fits bytes x) (map (header_fits bytes) xs) (e ∙ ap suc (sym (length-map xs (header_fits bytes)))) in
    omega (
      arith,
      length-append (header_written (header_named bytes x)) (headers_written (map (header_named bytes) xs)),
      header_le bytes x k.0 p,
      headers_le bytes xs p (k.1 ∙ length-map xs (header_fits bytes)),
      suc-mul (length xs) 3221225474,
    )

-- ---- the encoding

module _ (bytes : List ℕ) (p : CommitParts) where
  pub encoding-given : p.encoding ≡ 1 → encoding_named bytes p ≡ given (part p.encoding_start p.encoding_end bytes)
  encoding-given e = rw (eq-eqb p.encoding 1 e)

  pub encoding-absent : (p.encoding ≡ 1 → ⊥) → encoding_named bytes p ≡ absent
  encoding-absent e = rw (ne_eqb p.encoding 1 e)

  -- with mark 1 its range is one
  pub encoding_range : encoding_fits (length bytes) p ≡ true → p.encoding ≡ 1 → (p.encoding_start ≤ p.encoding_end) × (p.encoding_end ≤ length bytes)
  encoding_range f e = range-parts p.encoding_start p.encoding_end (length bytes) (sym (encoding-one (length bytes) p e) ∙ f)

-- ---- what refuses an encoding

module _ (bytes : List ℕ) (p : CommitParts) where
  pub fault-absent : (p.encoding ≡ 1 → ⊥) → encoding_refusal (encoding_named bytes p) ≡ 0
  unfolding encoding_refusal
  fault-absent e = rw (encoding-absent bytes p e)

  pub fault-given : p.encoding ≡ 1 → encoding_refusal (encoding_named bytes p) ≡ encoding_refusal (given (part p.encoding_start p.encoding_end bytes))
  fault-given e = ap encoding_refusal (encoding-given bytes p e)

-- ---- the whole

-- what each part of a commit that passes takes, so that no sum leaves 64 bits, and where its parts lie
record Sizes (h : ℕ) (bytes : List ℕ) (p : CommitParts) (parents headers : List ℕ) : Type 0 where
  pub id_small : h ≤ 32
  pub bytes_most : length bytes ≤ most_bytes
  pub parents_most : length parents ≤ most_records
  pub headers_most : length headers / width ≤ most_records
  pub tree_inside : p.tree + 2 * h ≤ length bytes
  pub tree_long : length (id_named h bytes p.tree) ≡ 2 * h
  pub tree_size : length (line tree_word (lower_hex (id_named h bytes p.tree))) ≤ 70
  pub parents_size : length (parents_bytes (map lower_hex (map (id_named h bytes) parents))) ≤ length parents * 72
  pub author_range : (p.author_start ≤ p.author_end) × (p.author_end ≤ length bytes)
  pub author_long : length (part p.author_start p.author_end bytes) ≤ most_bytes
  pub author_size : length (line author_word (part p.author_start p.author_end bytes)) ≤ 1073741832
  pub committer_range : (p.committer_start ≤ p.committer_end) × (p.committer_end ≤ length bytes)
  pub committer_long : length (part p.committer_start p.committer_end bytes) ≤ most_bytes
  pub committer_size : length (line committer_word (part p.committer_start p.committer_end bytes)) ≤ 1073741835
  pub encoding_size : length (encoding_bytes (encoding_named bytes p)) ≤ 1073741834
  pub headers_size : length (headers_written (map (header_named bytes) (headers_of headers))) ≤ (length headers / width) * 3221225474
  pub message_range : (p.message_start ≤ p.message_end) × (p.message_end ≤ length bytes)
  pub message_long : length (part p.message_start p.message_end bytes) ≡ p.message_end - p.message_start

part_le : (bytes : List ℕ) (from to : ℕ) → ranged from to (length bytes) ≡ true → length bytes ≤ most_bytes → length (part from to bytes) ≤ most_bytes
part_le bytes from to r m = let k = range-parts from to (length bytes) r in omega (arith, k, part_length bytes from to k.0 k.1)

encoding_le : (bytes : List ℕ) (p : CommitParts) → encoding_fits (length bytes) p ≡ true → length bytes ≤ most_bytes → length (encoding_bytes (encoding_named bytes p)) ≤ 1073741834
unfolding encoding_bytes
encoding_le bytes p f m =
    ⊎_elim
    (λ e. let r = encoding_range bytes p f e in
    let v = part p.encoding_start p.encoding_end bytes in
    rw (encoding-given bytes p e) (omega (arith, r, line-length encoding_word v, part_length bytes p.encoding_start p.encoding_end r.0 r.1)))
    (λ e. rw (encoding-absent bytes p e) (omega arith))
    (equal p.encoding 1)

sizes : (h : ℕ) (bytes : List ℕ) (p : CommitParts) (parents headers : List ℕ) (room : ℕ) → Sound h bytes p parents headers room → Sizes h bytes p parents headers
sizes h bytes p parents headers room s =
    let small = (id_small h s.id_length).1 in
    let a = part p.author_start p.author_end bytes in
    let c = part p.committer_start p.committer_end bytes in
    let al = part_le bytes p.author_start p.author_end s.author s.bytes_most in
    let cl = part_le bytes p.committer_start p.committer_end s.committer s.bytes_most in
    let m = range-parts p.message_start p.message_end (length bytes) s.message in
    let t = id_length h bytes p.tree s.tree in
    let n = records-length 0 (length headers / width) headers in
    record {
      id_small = small;
      bytes_most = s.bytes_most;
      parents_most = s.parents_most;
      headers_most = s.headers_most;
      tree_inside = id-inside h bytes p.tree s.tree;
      tree_long = t;
      tree_size = omega (arith, line-length tree_word (lower_hex (id_named h bytes p.tree)), length-map (id_named h bytes p.tree) lower_digit, t, small);
      parents_size = parents_le h bytes parents small s.parents_pass;
      author_range = range-parts p.author_start p.author_end (length bytes) s.author;
      author_long = al;
      author_size = omega (arith, line-length author_word a, al);
      committer_range = range-parts p.committer_start p.committer_end (length bytes) s.committer;
      committer_long = cl;
      committer_size = omega (arith, line-length committer_word c, cl);
      encoding_size = encoding_le bytes p s.encoding s.bytes_most;
      headers_size = rw n at (headers_le bytes (headers_of headers) s.bytes_most (s.headers_pass ∙ sym n));
      message_range = m;
      message_long = part_length bytes p.message_start p.message_end m.0 m.1;
    }

-- what each piece asks of its place, which the pieces before it end at: no place leaves 64 bits
module _ (h : ℕ) (bytes : List ℕ) (p : CommitParts) (parents headers : List ℕ) (z : (checked h bytes p parents headers 0).number ≡ 0) where
  k : Sizes h bytes p parents headers
  k = sizes h bytes p parents headers 0 (checked-sound h bytes p parents headers 0 z)

  pub tree_asks : (p.tree + 2 * h ≤ length bytes) × ((h ≤ 32) × (0 + (4 + 2 * h + 2) < 18446744073709551616))
  tree_asks = (k.tree_inside, (k.id_small, omega (arith, k.id_small)))

  module _ {a : ℕ} (ea : a ≡ 0 + length (line tree_word (lower_hex (id_named h bytes p.tree)))) where
    pub parents_asks : (passing (map (id_fits h bytes) parents) ≡ length parents) × ((h ≤ 32) × (a + length parents * 72 < 18446744073709551616))
    parents_asks = ((checked-sound h bytes p parents headers 0 z).parents_pass, (k.id_small, omega (arith, ea, k.tree_size, k.parents_most)))

    module _ {b : ℕ} (eb : b ≡ a + length (parents_bytes (map lower_hex (map (id_named h bytes) parents)))) where
      parents_end : b ≤ 75497542
      parents_end = omega (arith, ea, eb, k.tree_size, k.parents_size, k.parents_most)

      pub author_asks : ((p.author_start ≤ p.author_end) × (p.author_end ≤ length bytes))
          × (b + (6 + (p.author_end - p.author_start) + 2) < 18446744073709551616)
      author_asks = (k.author_range, omega (arith, parents_end, k.author_range, k.bytes_most))

      module _ {c : ℕ} (ec : c ≡ b + length (line author_word (part p.author_start p.author_end bytes))) where
        author-end : c ≤ 1149239374
        author-end = omega (arith, parents_end, ec, k.author_size)

        pub committer_asks : ((p.committer_start ≤ p.committer_end) × (p.committer_end ≤ length bytes))
            × (c + (9 + (p.committer_end - p.committer_start) + 2) < 18446744073709551616)
        committer_asks = (k.committer_range, omega (arith, author-end, k.committer_range, k.bytes_most))

        module _ {d : ℕ} (ed : d ≡ c + length (line committer_word (part p.committer_start p.committer_end bytes))) where
          committer-end : d ≤ 2222981209
          committer-end = omega (arith, author-end, ed, k.committer_size)

          pub encoding_asks : (encoding_fits (length bytes) p ≡ true) × ((length bytes ≤ most_bytes) × (d + 1073741834 < 18446744073709551616))
          encoding_asks = ((checked-sound h bytes p parents headers 0 z).encoding, (k.bytes_most, omega (arith, committer-end)))

          module _ {e : ℕ} (ee : e ≡ d + length (encoding_bytes (encoding_named bytes p))) where
            encoding-end : e ≤ 3296723043
            encoding-end = omega (arith, committer-end, ee, k.encoding_size)

            pub headers_asks : (passing (map (header_fits bytes) (headers_of headers)) ≡ length headers / width)
                × ((length bytes ≤ most_bytes) × (e + (length headers / width) * 3221225474 ≤ most_place))
            headers_asks = ((checked-sound h bytes p parents headers 0 z).headers_pass, (k.bytes_most, omega (arith, encoding-end, k.headers_most)))

            pub message_asks : {f : ℕ} → f ≡ e + length (headers_written (map (header_named bytes) (headers_of headers)))
                → ((p.message_start ≤ p.message_end) × (p.message_end ≤ length bytes))
                × (f + (p.message_end - p.message_start) + 1 < 18446744073709551616)
            message_asks ef = (k.message_range, omega (arith, encoding-end, ef, k.headers_size, k.headers_most, k.message_range, k.bytes_most))

-- the pieces in turn are the commit
commit-pieces : (h : ℕ) (bytes : List ℕ) (p : CommitParts) (parents headers : List ℕ) {l l1 l2 l3 l4 l5 l6 l7 : List ℕ} {a b c d e f g : ℕ}
    → Put l 0 (line tree_word (lower_hex (id_named h bytes p.tree))) l1 a
    → Put l1 a (parents_bytes (map lower_hex (map (id_named h bytes) parents))) l2 b
    → Put l2 b (line author_word (part p.author_start p.author_end bytes)) l3 c
    → Put l3 c (line committer_word (part p.committer_start p.committer_end bytes)) l4 d
    → Put l4 d (encoding_bytes (encoding_named bytes p)) l5 e
    → Put l5 e (headers_written (map (header_named bytes) (headers_of headers))) l6 f
    → Put l6 f (10 ∷ part p.message_start p.message_end bytes) l7 g
    → Put l 0 (parts_written h bytes p parents headers) l7 g
unfolding commit_written
commit-pieces h bytes p parents headers x1 x2 x3 x4 x5 x6 x7 = put_then x1 (put_then x2 (put_then x3 (put_then x4 (put_then x5 (put_then x6 x7)))))

-- so are they where each says its end and what it stored
pub commit-put : (h : ℕ) (bytes : List ℕ) (p : CommitParts) (parents headers l : List ℕ) {l1 l2 l3 l4 l5 l6 l7 : List ℕ} {a b c d e f g : ℕ}
    → a ≡ 0 + length (line tree_word (lower_hex (id_named h bytes p.tree))) → l1 ≡ sets l 0 (line tree_word (lower_hex (id_named h bytes p.tree)))
    → b ≡ a + length (parents_bytes (map lower_hex (map (id_named h bytes) parents)))
    → l2 ≡ sets l1 a (parents_bytes (map lower_hex (map (id_named h bytes) parents)))
    → c ≡ b + length (line author_word (part p.author_start p.author_end bytes))
    → l3 ≡ sets l2 b (line author_word (part p.author_start p.author_end bytes))
    → d ≡ c + length (line committer_word (part p.committer_start p.committer_end bytes))
    → l4 ≡ sets l3 c (line committer_word (part p.committer_start p.committer_end bytes))
    → e ≡ d + length (encoding_bytes (encoding_named bytes p)) → l5 ≡ sets l4 d (encoding_bytes (encoding_named bytes p))
    → f ≡ e + length (headers_written (map (header_named bytes) (headers_of headers)))
    → l6 ≡ sets l5 e (headers_written (map (header_named bytes) (headers_of headers)))
    → g ≡ f + length (10 ∷ part p.message_start p.message_end bytes) → l7 ≡ sets l6 f (10 ∷ part p.message_start p.message_end bytes)
    → (g ≡ length (parts_written h bytes p parents headers)) × (l7 ≡ sets l 0 (parts_written h bytes p parents headers))
commit-put h bytes p parents headers l ea la eb lb ec lc ed ld ee le ef lf eg lg =
    let w = commit-pieces h bytes p parents headers (put_of l 0 _ _ _ ea la) (put_of _ _ _ _ _ eb lb) (put_of _ _ _ _ _ ec lc) (put_of _ _ _ _ _ ed ld)
    (put_of _ _ _ _ _ ee le) (put_of _ _ _ _ _ ef lf) (put_of _ _ _ _ _ eg lg) in
    (omega (arith, w.past), w.holds)

-- ---- the answers

module _ (h : ℕ) (bytes : List ℕ) (p : CommitParts) (parents headers : List ℕ) (room : ℕ) where
  measured-bad : ((checked h bytes p parents headers room).number ≡ 0 → ⊥) → measured h bytes p parents headers room ≡ refused (checked h bytes p parents headers room)
  unfolding measured
  measured-bad z = simp (ne_eqb (checked h bytes p parents headers room).number 0 z)

  pub measured-fine : (checked h bytes p parents headers room).number ≡ 0 → measured h bytes p parents headers room ≡ counted (length (parts_written h bytes p parents headers))
  unfolding measured
  measured-fine z = simp (eq-eqb (checked h bytes p parents headers room).number 0 z)

  -- a measure that is done: nothing was refused
  pub measured-checked : (measured h bytes p parents headers room).verdict.number ≡ 0 → (checked h bytes p parents headers room).number ≡ 0
  measured-checked z =
      ⊎_elim (λ e. e) (λ n. absurd (n (ap (λ (a : Answer). a.verdict.number) (sym (measured-bad n)) ∙ z))) (equal (checked h bytes p parents headers room).number 0)

  pub measured-length : (measured h bytes p parents headers room).verdict.number ≡ 0 → (measured h bytes p parents headers room).count ≡ length (parts_written h bytes p parents headers)
  measured-length z = ap (λ (a : Answer). a.count) (measured-fine (measured-checked z))

  -- with less room nothing else is refused
  pub checked_less : (checked h bytes p parents headers room).number ≡ 0 → (checked h bytes p parents headers 0).number ≡ 0
  checked_less z =
      let s = checked-sound h bytes p parents headers room z in
      ap (λ (v : Verdict). v.number)
      (sound-checked h bytes p parents headers 0
      (record {
        id_length = s.id_length;
        bytes_most = s.bytes_most;
        room_most = omega arith;
        parents_most = s.parents_most;
        headers_most = s.headers_most;
        tree = s.tree;
        parents_pass = s.parents_pass;
        author = s.author;
        committer = s.committer;
        encoding = s.encoding;
        headers_pass = s.headers_pass;
        message = s.message;
      }))

  pub answer-bad : ((measured h bytes p parents headers room).verdict.number ≡ 0 → ⊥) → commit_answer h bytes p parents headers room ≡ measured h bytes p parents headers room
  unfolding commit_answer encoded
  answer-bad z = simp (ne_eqb (measured h bytes p parents headers room).verdict.number 0 z) (fitted-bad room (measured h bytes p parents headers room) z)

  module _ (z : (measured h bytes p parents headers room).verdict.number ≡ 0) where
    pub answer-fault : (encoding_refusal (encoding_named bytes p) ≡ 0 → ⊥) → commit_answer h bytes p parents headers room ≡ refused (verdict (encoding_refusal (encoding_named bytes p)) 0)
    unfolding commit_answer encoded
    answer-fault n =
        let k : ℕ = encoding_refusal (encoding_named bytes p) in
        rw (eq-eqb (measured h bytes p parents headers room).verdict.number 0 z, ne_eqb k 0 n) (fitted-bad room (refused (verdict k 0)) n)

    pub answer-fits : encoding_refusal (encoding_named bytes p) ≡ 0 → commit_answer h bytes p parents headers room ≡ fitted room (measured h bytes p parents headers room)
    unfolding commit_answer encoded
    answer-fits n = rw (eq-eqb (measured h bytes p parents headers room).verdict.number 0 z, eq-eqb (encoding_refusal (encoding_named bytes p)) 0 n)

  -- the same by what the calls answered: the verdict of the check, the length of what was put
  module _ (v : Verdict) (q : v ≡ checked h bytes p parents headers room) where
    number_is : v.number ≡ (checked h bytes p parents headers room).number
    number_is = ap (λ (x : Verdict). x.number) q

    pub measure_refused : (v.number ≡ 0 → ⊥) → refused v ≡ measured h bytes p parents headers room
    measure_refused n = sym (measured-bad (λ z. n (number_is ∙ z)) ∙ ap refused (sym q))

    module _ (z : v.number ≡ 0) where
      pub measure_asks : (checked h bytes p parents headers 0).number ≡ 0
      measure_asks = checked_less (sym number_is ∙ z)

      pub measure_done : (n : ℕ) → n ≡ length (parts_written h bytes p parents headers) → counted n ≡ measured h bytes p parents headers room
      measure_done n e = sym (measured-fine (sym number_is ∙ z) ∙ ap counted (sym e))

  -- and by the measure, the encoding's refusal, and the measure with its room
  module _ (a : Answer) (q : a ≡ measured h bytes p parents headers room) where
    refusal_is : a.verdict.number ≡ (measured h bytes p parents headers room).verdict.number
    refusal_is = ap (λ (x : Answer). x.verdict.number) q

    pub write-bad : (a.verdict.number ≡ 0 → ⊥) → commit_answer h bytes p parents headers room ≡ a
    write-bad n = answer-bad (λ z. n (refusal_is ∙ z)) ∙ sym q

    module _ (z : a.verdict.number ≡ 0) where
      passed : (measured h bytes p parents headers room).verdict.number ≡ 0
      passed = sym refusal_is ∙ z

      pub encoding-fits : encoding_fits (length bytes) p ≡ true
      encoding-fits = (checked-sound h bytes p parents headers room (measured-checked passed)).encoding

      pub write_asks : (checked h bytes p parents headers 0).number ≡ 0
      write_asks = checked_less (measured-checked passed)

      pub write-count : a.count ≡ length (parts_written h bytes p parents headers)
      write-count = ap (λ (x : Answer). x.count) q ∙ measured-length passed

      module _ (n : ℕ) (e : n ≡ encoding_refusal (encoding_named bytes p)) where
        pub write-fault : (n ≡ 0 → ⊥) → commit_answer h bytes p parents headers room ≡ refused (verdict n 0)
        write-fault f = answer-fault passed (λ w. f (e ∙ w)) ∙ ap (λ (m : ℕ). refused (verdict m 0)) (sym e)

        pub write-fits : n ≡ 0 → (r : Answer) → r ≡ fitted room a → commit_answer h bytes p parents headers room ≡ r
        write-fits f r g = answer-fits passed (sym e ∙ f) ∙ sym (g ∙ ap (fitted room) q)
