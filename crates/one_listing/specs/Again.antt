-- What is read where an entry was written. Assumes nothing.
use Rattle.mode_text.specs.Write.{again}
use Rattle.entry.specs.Entry.{Entry}

-- the same name and id, and the mode that the written text reads as
unfoldable pub again_entry : Entry → Entry
again_entry e = record { mode = again e.mode; name = e.name; id = e.id }
