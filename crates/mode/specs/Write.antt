-- How a mode is written: the definitions of `mode_text`, passed on.
unfoldable pub use Rattle.mode_text.specs.Write.{trimmed, write_mode, again, mode_text}
pub use Rattle.mode_text.specs.Write.{six_digits, short}
