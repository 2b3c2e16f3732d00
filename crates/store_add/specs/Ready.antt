-- What is known of an addition that no check refuses. Assumes nothing: these are definitions.
use Rattle.std.specs.Prelude.{ℕ, ◌+◌, ◌*◌, ◌^◌, ◌≤◌, ◌<◌, ◌≡◌, true, List, length}
use Rattle.matcher.specs.Bytes.{path_limit}
use Rattle.rows.specs.Sizes.{reference_size}
use Rattle.rows.specs.Entry.{Entry}
use Rattle.book.specs.Front.{front_of, need, m_limit, l_limit, entries_limit}
use Rattle.book.specs.Replies.{add_number}
use Rattle.book.specs.Calls.{add, typed}

-- the store begins with these numbers, which keep to their limits; it is not full, and the entry is as it should be
pub record Ready (m l tau held : ℕ) (e : Entry) (store : List ℕ) : Type 0 where
  pub m_is : m ≡ (front_of store).M
  pub l_is : l ≡ (front_of store).L
  pub tau_is : tau ≡ (front_of store).τ
  pub held_is : held ≡ (front_of store).held
  pub accepted : add_number (length store) (front_of store) e ≡ 0
  pub types : typed (add (length store) e) ≡ true
  pub m_low : 1 ≤ m
  pub m_high : m ≤ m_limit
  pub l_high : l ≤ l_limit
  pub enough : need m l ≤ length store
  pub space : held + 1 < m * 2 ^ l
  pub few : held < entries_limit
  pub short : length e.path ≤ path_limit
  pub twenty : length e.reference ≡ reference_size
