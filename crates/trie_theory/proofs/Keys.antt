-- The keys of tries below known bytes: they begin with those bytes, and are what stands below none, put below them.
use mathlib.Core.Path.{◌≡◌, refl, sym, ap, ap₂, ◌∙◌}
use mathlib.Core.List.{List, [], ◌∷◌, ◌++◌, map}
use Rattle.trie_theory.specs.Forest.{Strings, Key, Forest, none, leaf, inner, join, under, keys}
use Rattle.buffer.specs.Lists.{All, nil}
use Rattle.trie_theory.specs.Strings.{remains}
use Rattle.buffer.proofs.Lists.{all_append, all_map, all_every, all_imp, map_append}
use Rattle.trie_theory.proofs.Prefix.{From, prefixes_join, prefixes_trans}
use Rattle.trie_theory.proofs.Strings.{join_assoc, join_nil, join_strip}

-- bytes known in two steps
pub under_join : (k s : Strings) (t : Key) → under (join k s) t ≡ under k (under s t)
unfolding under
under_join k s t = ap (λ (l : Strings). record { strings = l; reference = t.reference }) (join_assoc k s t.strings)

unders : (k s : Strings) (ts : List Key) → map (under (join k s)) ts ≡ map (under k) (map (under s) ts)
unders k s [] = refl
unders k s (t ∷ ts) = ap₂ ◌∷◌ (under_join k s t) (unders k s ts)

pub keys_under : (k s : Strings) (f : Forest) → keys (join k s) f ≡ map (under k) (keys s f)
unfolding keys
keys_under k s none = refl
keys_under k s (leaf t ts more) =
    ap₂ ◌++◌ (ap (λ (l : Strings). map (under l) ts) (join_assoc k s t) ∙ unders k (join s t) ts) (keys_under k s more)
    ∙ sym (map_append (under k) (map (under (join s t)) ts) (keys s more))
keys_under k s (inner d t children more) =
    ap₂ ◌++◌ (ap (λ (l : Strings). keys l children) (join_assoc k s t) ∙ keys_under k (join s t) children) (keys_under k s more)
    ∙ sym (map_append (under k) (keys (join s t) children) (keys s more))

pub keys_from : (s : Strings) (f : Forest) → keys s f ≡ map (under s) (keys [] f)
keys_from s f = ap (λ (l : Strings). keys l f) (sym (join_nil s)) ∙ keys_under s [] f

-- a key below k begins with k
pub from_under : (k : Strings) (ts : List Key) → All (From k) (map (under k) ts)
unfolding under
from_under k ts = all_map {P = λ t. Unit {0}} (under k) (λ t u. prefixes_join k t.strings) (all_every ts (λ t. tt))

pub from_join : (k s : Strings) {xs : List Key} → All (From (join k s)) xs → All (From k) xs
from_join k s a = all_imp (λ x h. prefixes_trans k (join k s) x.strings (prefixes_join k s) h) a

pub all_keys : (k : Strings) (f : Forest) → All (From k) (keys k f)
unfolding keys
all_keys k none = nil
all_keys k (leaf s ts more) = all_append (from_join k s (from_under (join k s) ts)) (all_keys k more)
all_keys k (inner d s children more) = all_append (from_join k s (all_keys (join k s) children)) (all_keys k more)

-- what remains of a key behind p, below p, is the key
pub under_remains : (p : Strings) (x : Key) → From p x → under p (remains p x) ≡ x
unfolding under remains
under_remains p x h = ap (λ (s : Strings). record { strings = s; reference = x.reference }) (join_strip p x.strings h)

pub under_known : (k s : Strings) (x : Key) → From s x → under (join k s) (remains s x) ≡ under k x
under_known k s x h = under_join k s (remains s x) ∙ ap (under k) (under_remains s x h)
