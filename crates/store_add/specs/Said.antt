-- The reply of the book that an accepted addition is. Assumes nothing: these are definitions.
use Rattle.book.specs.Replies.{Reply, reply}
use Rattle.store_add.specs.declared.add.Added.{Added}
use Rattle.store_add.specs.declared.add.Added.TheVariants.{New, AlreadyThere}

abbrev pub added : Added → Reply
added (New held) = reply 0 held 0
added (AlreadyThere held) = reply 100 held 0
