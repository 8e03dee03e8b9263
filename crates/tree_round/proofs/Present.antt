-- The theorems for the rules of a rule set. Assumes nothing.
use Prim.Native.Nat.{ℕ}
use Rattle.rules.specs.Rules.{git_rules}
use Rattle.one_listing.proofs.Present.{git_ok}
use Rattle.tree_round.specs.Demand.{Finds, Misses, PlainToo, Rewrites}
use Rattle.tree_round.proofs.Finding.{finds, misses}
use Rattle.tree_round.proofs.Writing.{plain_too, rewrites}

pub git_finds : (k : ℕ) → Finds (git_rules k)
git_finds k = finds (git_rules k) (git_ok k)

pub git_misses : (k : ℕ) → Misses (git_rules k)
git_misses k = misses (git_rules k) (git_ok k)

pub git_plain_too : (k : ℕ) → PlainToo (git_rules k)
git_plain_too k = plain_too (git_rules k)

pub git_rewrites : (k : ℕ) → Rewrites (git_rules k)
git_rewrites k = rewrites (git_rules k) (git_ok k)
