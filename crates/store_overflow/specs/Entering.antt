-- The entry of the book that an entry of the code is. Assumes nothing: these are definitions.
use Rattle.rows.specs.Entry.{Entry, entry}
use Rattle.store_overflow.specs.declared.entry.Entry as Code

abbrev pub entry_of : Code.Entry → Entry
entry_of e = entry e.path.now e.value e.reference.now
