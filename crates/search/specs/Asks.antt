-- What a search's query asks of entries. Assumes nothing: this is a definition.
use Rattle.entries.specs.Query.{asked}
use Rattle.search.specs.declared.query.Query.{Query}

-- its pattern, and its range of values
abbrev pub asks : Query → Rattle.entries.specs.Query.Query
asks q = asked q.pattern.now q.range.from q.range.to
