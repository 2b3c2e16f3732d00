-- What is unfolded to compute the book's answers to given calls: whoever unfolds this name unfolds all that stands on its lines.
use Rattle.std.specs.Prelude.{ℕ}
use Rattle.buffer.specs.Lists.{any, pick, sum, flat, same}
use Rattle.buffer.specs.Splice.{splice}
use Rattle.buffer.specs.Numbers.{bytes_of, number}
use Rattle.matcher.specs.Bytes.{label_byte}
use Rattle.matcher.specs.Form.{path_form, pattern_form}
use Rattle.matcher.specs.Fit.{fit}
use Rattle.matcher.specs.Matches.{matches}
use Rattle.matcher.specs.Reach.{reach_of}
use Rattle.rows.specs.Entry.{row, same_entry}
use Rattle.rows.specs.Order.{compare_bytes, by_key, sequence_bytes}
use Rattle.rows.specs.Sorted.{insert, sorted}
use Rattle.trie_theory.specs.Computing.{of_a_level, of_a_search}
use Rattle.trie_theory.specs.Encode.{suffix_bytes, node_bytes, encode}
use Rattle.entries.specs.Keys.{entry_key}
use Rattle.entries.specs.Query.{in_range, matches_entry, lowest, highest, overlaps, value_reach, reaches, wants}
use Rattle.book.specs.Front.{front_bytes, in_limits, need, capacity, no_store, full}
use Rattle.book.specs.Digits.{digit, quotient, level_size, level_start, level, small}
use Rattle.book.specs.Tries.{every, level_trie, tries}
use Rattle.book.specs.Searching.{matching, nodes_of, nodes}
use Rattle.book.specs.Records.{step_bytes, walk_bytes, record_of, level_read, records}
use Rattle.book.specs.Replies.{setup_number, add_number, search_number, read_number}
use Rattle.book.specs.Step.{fill, list, step, answers}
use Rattle.book.specs.Image.{padded, regions, store_of, image}

-- rows, patterns and queries
unfoldable pub of_entries : ℕ
unfolding any pick sum flat same splice bytes_of number label_byte path_form pattern_form fit matches reach_of row same_entry compare_bytes by_key sequence_bytes insert sorted entry_key in_range matches_entry lowest highest overlaps value_reach reaches wants
of_entries = 0

-- the book's tries, and its step
unfoldable pub of_a_book : ℕ
unfolding of_entries of_a_level of_a_search in_limits need capacity no_store full digit quotient level_size level_start level small every level_trie tries matching nodes_of nodes step_bytes walk_bytes record_of level_read records setup_number add_number search_number read_number fill list step answers
of_a_book = 0

-- the bytes of its store
unfoldable pub of_an_image : ℕ
unfolding of_a_book suffix_bytes node_bytes encode front_bytes padded regions store_of image
of_an_image = 0
