-- The reply of the book that a reply of the code is. Assumes nothing: these are definitions.
use Rattle.book.specs.Replies as Book
use Rattle.nivruska.specs.declared.reply.Reply.{Reply}

abbrev pub replied : Reply → Book.Reply
replied r = Book.reply r.number r.first r.second
