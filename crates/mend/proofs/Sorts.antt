-- Laws of sorting: those of `mend_kept`, passed on.
pub use Rattle.mend_kept.proofs.Sorts.{sort-map, sort-same}
