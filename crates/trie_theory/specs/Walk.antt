-- The nodes from the root to the leaf of a key, as a level is read back: in a trie, and as the paper defines them from sets
-- of keys (Definition 7). In a level they are the same (proofs/LevelWalk.antt).
use Rattle.std.specs.Prelude.{ℕ, zero, suc, cond, List, [], ◌∷◌, map, length}
use Rattle.std.proofs.Math.Option.{Option, some}
use Rattle.trie_theory.specs.Forest.{Strings, Key, Forest, none, leaf, inner, join, keys}
use Rattle.trie_theory.specs.Strings.{all_begin}
use Rattle.trie_theory.specs.Dimensions.{Above, below}
use Rattle.trie_theory.specs.Position.{shared, byte}
use Rattle.trie_theory.specs.Parts.{keep}
use Rattle.trie_theory.specs.Level.{choice}

-- A node on the way of a key: how many keys are below it, how it branches (1 in dimension 0, 2 in dimension 1, and so on,
-- 0 for a leaf), and its position in each dimension, counted from 1
pub record Step : Type 0 where
  pub amount : ℕ
  pub kind : ℕ
  pub positions : List ℕ

-- the node at which the bytes k are known, its own included
unfoldable pub step_at : Strings → ℕ → ℕ → Step
step_at k amount kind = record { amount = amount; kind = kind; positions = map (λ s. suc (length s)) k }

-- the nodes of x in tries, k known above them: the first trie with whose bytes x goes on, and so on below it
unfoldable pub walk : Strings → Forest → Key → List Step
walk k none x = []
walk k (leaf s ts more) x =
    cond (all_begin (join k s) x.strings) (step_at (join k s) (length ts) 0 ∷ []) (walk k more x)
walk k (inner d s children more) x =
    cond (all_begin (join k s) x.strings)
    (step_at (join k s) (length (keys (join k s) children)) (suc d) ∷ walk (join k s) children x)
    (walk k more x)

-- how a node branches
unfoldable pub kind_of : Option ℕ → ℕ
kind_of Option.none = 0
kind_of (some d) = suc d

-- what comes below a node that branches; nothing below a leaf
unfoldable pub follow : Option ℕ → (ℕ → List Step) → List Step
follow Option.none g = []
follow (some d) g = g d

-- The partitioning sequence of key x: its set, then the part of it that has x, and so on to a leaf; at most f parts deep
unfoldable pub sequence : ℕ → ℕ → ℕ → Above → List Key → Key → List Step
sequence n τ zero above ks x = step_at (shared ks) (length ks) 0 ∷ []
sequence n τ (suc f) above ks x =
    step_at (shared ks) (length ks) (kind_of (choice n τ above ks))
    ∷ follow (choice n τ above ks) (λ d. sequence n τ f (below d) (keep d (shared ks) (byte d (shared ks) x) ks) x)

-- the same to its end (law `route_step`)
unfoldable pub route : ℕ → ℕ → Above → List Key → Key → List Step
route n τ above ks x = sequence n τ (length ks) above ks x
