-- A whole log prints what the definition says. Assumes nothing.
use mathlib.Core.Path.{◌≡◌, refl, sym, ap, ap₂, ◌∙◌}
use Prim.Native.Nat.{ℕ}
use mathlib.Core.List.{List, [], ◌∷◌, ◌++◌, map, append_assoc}
use Rattle.buffer.specs.Lists.{flat}
use Rattle.buffer.proofs.Lists.{map_append}
use Rattle.logline.specs.Meaning.{Meaning, meaning, meaning_of}
use Rattle.logline.specs.Input.{given, lines_of, begun_after, on_byte}
use Rattle.logline.proofs.Feeding.{fed, fed_lines, given_means, holds_start}
use Rattle.book.specs.Book.{Book, blank}
use Rattle.session.specs.Printed.{next, printed, printed_all, next_all, output}
use Rattle.session.specs.Keeps.{unused, State, Stands, FedByte}
use Rattle.session.specs.Whole.{Feeds, none, byte, FedBytes, FedSome, Prints, ends, chunk, LogPrints}

printed_append : (b : Book) (ms ns : List Meaning) → printed_all b (ms ++ ns) ≡ printed_all b ms ++ printed_all (next_all b ms) ns
unfolding printed_all next_all
printed_append b [] ns = refl
printed_append b (m ∷ ms) ns = ap (◌++◌ (printed b m)) (printed_append (next b m) ms ns) ∙ sym (append_assoc (printed b m) (printed_all (next b m) ms) (printed_all (next_all (next b m) ms) ns))

-- what is printed for the rest of an input, where a line is begun
says : Book → List ℕ → List ℕ → List ℕ
says b begun s = printed_all b (map meaning_of (fed begun s))

fed_through : {s after : State} {bytes text : List ℕ} → Feeds s bytes text after → (begun : List ℕ) (b : Book) → Stands s begun b → (more rest : List ℕ)
    → ((begun : List ℕ) (b : Book) → Stands after begun b → rest ≡ says b begun more) → text ++ rest ≡ says b begun (bytes ++ more)
unfolding fed says
fed_through none begun b h more rest f = f begun b h
fed_through (byte {x = x} {bytes = bytes} {text = text} {rest = others} d r) begun b h more rest f =
    let ms = map meaning_of (on_byte begun x) in
    let ns = fed (begun_after begun x) (bytes ++ more) in
    append_assoc text others rest ∙ ap₂ ◌++◌ (d.prints begun b h) (fed_through r (begun_after begun x) (next_all b ms) (d.stands begun b h) more rest f)
    ∙ sym (ap (printed_all b) (map_append meaning_of (on_byte begun x) ns) ∙ printed_append b ms (map meaning_of ns))

chunks_say : {s : State} {chunks : List (List ℕ)} {text : List ℕ} → Prints s chunks text → (begun : List ℕ) (b : Book) → Stands s begun b
    → text ≡ says b begun (flat chunks)
unfolding fed says flat
chunks_say (ends d) begun b h = d.prints begun b h
chunks_say (chunk {rest = rest} {chunks = chunks} r c) begun b h = fed_through r begun b h (flat chunks) rest (λ begun b h. chunks_say c begun b h)

means_lines : (ls : List (List ℕ)) → map meaning_of (map given ls) ≡ map meaning ls
means_lines [] = refl
means_lines (l ∷ ls) = ap₂ ◌∷◌ (given_means l) (means_lines ls)

pub log_prints : LogPrints
unfolding says output
log_prints line chunks text e p =
    chunks_say p [] blank (record { holds = holds_start line e; keeps = unused refl refl })
    ∙ ap (printed_all blank) (ap (map meaning_of) (fed_lines (flat chunks) []) ∙ means_lines (lines_of (flat chunks)))

-- ---- bytes fed one after another

snoc : {s between after : State} {bytes text rest : List ℕ} {x : ℕ} → Feeds s bytes text between → FedByte x between after rest
    → FedBytes s (bytes ++ (x ∷ [])) after
snoc none d = record { text = _; feeds = byte d none }
snoc (byte f r) d = let more = snoc r d in record { text = _; feeds = byte f more.feeds }

pub fed_none : {s : State} → FedBytes s [] s
fed_none = record { text = []; feeds = none }

pub fed_more : {s between after : State} {bytes text : List ℕ} {x : ℕ} → FedBytes s bytes between → FedByte x between after text
    → FedBytes s (bytes ++ (x ∷ [])) after
fed_more f d = snoc f.feeds d

append : {s between after : State} {bytes text more : List ℕ} → Feeds s bytes text between → FedBytes between more after → FedBytes s (bytes ++ more) after
append none f = f
append (byte d r) f = let more = append r f in record { text = _; feeds = byte d more.feeds }

pub some_none : {s : State} → FedSome s s
some_none = record { bytes = []; fed = fed_none }

pub some_more : {s between after : State} {bytes : List ℕ} → FedSome s between → FedBytes between bytes after → FedSome s after
some_more f d = record { bytes = _; fed = append f.fed.feeds d }
