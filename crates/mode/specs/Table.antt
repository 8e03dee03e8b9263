-- The table of the five written modes: the definitions of `mode_table`, passed on.
unfoldable pub use Rattle.mode_table.specs.Table.{rows, row_at, written_of, written_mode}
unfoldable pub use Rattle.mode.specs.Mode.{word_of}
pub use Rattle.mode_table.specs.Table.{no_row, place_of, find_text}
pub use Rattle.mode_text.specs.Write.{shown}
