-- P1 TO P12 of document 01's "Fields to try it on", together: a table with one theorem. Assumes nothing.
use Rattle.std.specs.Prelude.{ℕ, ◌≡◌, refl, Bool, cond, List, [], ◌∷◌, map, replicate}
use Rattle.matcher.specs.Reach.{goes_on}
use Rattle.matcher.specs.Worked.{decided, p5, p6, p7, p8, p9, p10}
use Rattle.trie_theory.specs.Walk.{Step}
use Rattle.trie_theory.specs.Worked.{Line, line, positions, nine, k4, k8, k9, way}
use Rattle.entries.specs.Query.{value_reach}
use Rattle.book.specs.Computing.{of_a_book}

-- yes is 1, no is 0
abbrev as_number : Bool → List ℕ
as_number b = cond b 1 0 ∷ []

-- seven zero value bytes can be continued to a value from low to high
abbrev zeros_reach : ℕ → ℕ → Bool
zeros_reach low high = goes_on (value_reach (record { pattern = []; low = low; high = high }) (replicate 7 0))

abbrev pub fields : List Line
fields =
    -- P1 keys 1 to 9: positions path 2, value 5. P2 keys 4, 8, 9: 14 and 7. P3 key 9 alone: 23 and 9
    line (positions nine) (2 ∷ 5 ∷ []) ∷ line (positions (k4 ∷ k8 ∷ k9 ∷ [])) (14 ∷ 7 ∷ []) ∷ line (positions (k9 ∷ [])) (23 ∷ 9 ∷ [])
    -- P4 key 9 with τ 2: sets of 9, 4, 3, 2 keys; by V (1), path (2), V, then a leaf (0)
    ∷ line (map (λ (t : Step). t.amount) way) (9 ∷ 4 ∷ 3 ∷ 2 ∷ []) ∷ line (map (λ (t : Step). t.kind) way) (1 ∷ 2 ∷ 1 ∷ 0 ∷ [])
    -- P5 `/**/pond*/*.c` fits `/north/pond3/map.c`. P6 not `/north/pond3/sub/map.c`
    ∷ line (as_number (decided p5)) (1 ∷ []) ∷ line (as_number (decided p6)) (0 ∷ [])
    -- P7 `/a*a` does not fit `/a`. P8 it fits `/aa`. P9 `/north/**` fits `/north`
    ∷ line (as_number (decided p7)) (0 ∷ []) ∷ line (as_number (decided p8)) (1 ∷ []) ∷ line (as_number (decided p9)) (1 ∷ [])
    -- P10 `/gs/` cannot be continued for `/fs/*`
    ∷ line (as_number (decided p10)) (0 ∷ [])
    -- P11 seven zero value bytes cannot for 256 to 300. P12 they can for 255 to 300
    ∷ line (as_number (zeros_reach 256 300)) (0 ∷ []) ∷ line (as_number (zeros_reach 255 300)) (1 ∷ []) ∷ []

-- EVERY LINE IS AS PRINTED
pub fields_hold : map (λ (l : Line). l.computed) fields ≡ map (λ (l : Line). l.printed) fields
unfolding of_a_book
fields_hold = refl
