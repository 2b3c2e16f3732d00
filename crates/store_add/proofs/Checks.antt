-- Check after check. Assumes nothing.
use mathlib.Core.Path.{◌≡◌, refl, sym, ap, subst}
use Prim.Native.Nat.{ℕ, zero, suc, ◌+◌, ◌-◌, ◌*◌, ◌^◌, ◌≤◌, ◌<◌}
use native.Mathlib.Omega.{arith}
use native.Mathlib.Nat.{mul-le-mul}
use lib.Pow.{pow_mono}
use lib.ListN.{length}
use borrow.Author.Tests.{eq-eqb, ne_eqb, ltb-false}
use mathlib.Core.Bool.{Bool, true, false, cond}
use mathlib.Core.List.{List}
use Rattle.std.specs.Prelude.{Ok, Err}
use Rattle.matcher.specs.Bytes.{path_limit}
use Rattle.matcher.specs.Form.{path_form, path_number, too_long, formed_path}
use Rattle.matcher.specs.declared.form.FormError.TheVariants.{TooLong, Malformed}
use Rattle.rows.specs.Sizes.{reference_size}
use Rattle.book.specs.Front.{capacity, full}
use Rattle.rows.specs.Entry.{Entry}
use Rattle.book.specs.Replies.{Reply, reply, add_number}
use Rattle.store.specs.Said.{refused}
use Rattle.store.specs.declared.refusal.Refusal.{Refusal}
use Rattle.store.proofs.Said.{refused_some}
use Rattle.store_add.specs.Checked.{Checked}

-- a path that is fine is short
pub fine_short : (s : List ℕ) → path_number (path_form s) ≡ 0 → length s ≤ path_limit
unfolding path_form
fine_short s z = go (too_long s) refl z
  where
    go : (b : Bool) → too_long s ≡ b → path_number (cond b (Err TooLong) (cond (formed_path s) (Ok tt) (Err Malformed))) ≡ 0 → length s ≤ path_limit
    go true h f = absurd (let x : ◌≡◌ {A = ℕ} 2 0 = f in omega arith)
    go false h f = ltb-false path_limit (length s) h

-- a store has at most 2^20 entries
pub capacity_most : (m l : ℕ) → m ≤ 4096 → l ≤ 8 → m * 2 ^ l ≤ 1048576
capacity_most m l h k = mul-le-mul h (pow_mono k)

module _ (m l held : ℕ) (e : Entry) where
  path_number_refused : (k : ℕ) → k ≡ path_number (path_form e.path) → 0 < k → Checked m l held e (reply k 0 0)
  unfolding add_number
  path_number_refused zero p h = absurd (omega arith)
  path_number_refused (suc k) p h = λ n f em el eh s. rw (s, ← p)

  pub path_refused : (r : Refusal) → refused r ≡ reply (path_number (path_form e.path)) 0 0 → Checked m l held e (refused r)
  path_refused r q =
      let some : 0 < path_number (path_form e.path) = omega (arith, refused_some r, ap (λ (x : Reply). x.number) q) in
      subst (Checked m l held e) (sym q) (path_number_refused _ refl some)

  module _ (fine : reply 0 0 0 ≡ reply (path_number (path_form e.path)) 0 0) where
    pub none : path_number (path_form e.path) ≡ 0
    none = sym (ap (λ (x : Reply). x.number) fine)

    pub not_twenty : (length e.reference ≡ reference_size → ⊥) → Checked m l held e (reply 3 0 0)
    unfolding add_number
    not_twenty r n f em el eh s = rw (s, none, ne_eqb (length e.reference) reference_size r)

    module _ (r : length e.reference ≡ reference_size) where
      pub is_full : held + 1 ≡ m * 2 ^ l → Checked m l held e (reply 9 0 0)
      unfolding add_number full capacity
      is_full h n f em el eh s =
          let w : f.held + 1 ≡ f.M * 2 ^ f.L = rw (← em, ← el, ← eh) h in
          let e₁ : f.held ≡ f.M * 2 ^ f.L - 1 = omega arith in
          rw (s, none, eq-eqb (length e.reference) reference_size r, eq-eqb f.held (f.M * 2 ^ f.L - 1) e₁)

      pub has_space : held < m * 2 ^ l → (held + 1 ≡ m * 2 ^ l → ⊥) → Checked m l held e (reply 0 0 0)
      unfolding add_number full capacity
      has_space i h n f em el eh s =
          let j : f.held < f.M * 2 ^ f.L = rw (← em, ← el, ← eh) i in
          let e₁ : f.held ≡ f.M * 2 ^ f.L - 1 → ⊥ = λ y. h (rw (em, el, eh) (omega (arith, y, j))) in
          rw (s, none, eq-eqb (length e.reference) reference_size r, ne_eqb f.held (f.M * 2 ^ f.L - 1) e₁)
