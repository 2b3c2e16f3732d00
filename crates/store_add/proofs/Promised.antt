-- The three outcomes of an addition: refused, there already, put in. Assumes nothing.
use mathlib.Core.Path.{◌≡◌, refl, sym, ap, ◌∙◌, subst}
use mathlib.Core.Logic.{inl, inr}
use mathlib.Core.Bool.{Bool, true, false}
use Prim.Native.Nat.{ℕ, zero, suc, ◌+◌, ◌≤◌}
use mathlib.Core.List.{List, [], ◌∷◌, ◌++◌}
use native.Mathlib.Omega.{arith}
use lib.ListN.{length, drop}
use Rattle.buffer.specs.Lists.{any}
use Rattle.buffer.specs.Numbers.{bytes_of}
use Rattle.buffer.specs.Splice.{splice}
use Rattle.rows.specs.Sizes.{value_size}
use Rattle.trie_read.specs.Shape.{key_of}
use Rattle.rows.specs.Entry.{Entry}
use Rattle.trie_theory.specs.Forest.{Key}
use Rattle.trie_theory.specs.Dimensions.{root}
use Rattle.trie_theory.specs.Lookup.{member}
use Rattle.entries.specs.Keys.{entry_key}
use Rattle.book.specs.Front.{Front, front_size, held_at, front_room, front_of, holding, need}
use Rattle.book.specs.Book.{Book, held, front}
use Rattle.book.specs.Tries.{tries, every}
use Rattle.book.specs.FromTries.{has_in}
use Rattle.book.specs.Replies.{Reply, reply, add_number}
use Rattle.book.specs.Calls.{add, typed}
use Rattle.book.specs.Step.{step, admit}
use Rattle.book.specs.Image.{image, HoldsBook}
use Rattle.book.specs.Promises.{Adds}
use Rattle.book.proofs.Numbers.{acceptable}
use Rattle.book.proofs.Book.{put_sound}
use Rattle.book.proofs.Image.{image_fits}
use Rattle.book.proofs.Good.{tries_good}
use Rattle.book.proofs.OneCall.{front_read, need_front}
use Rattle.book.proofs.OverTries.{looked_up}
use Rattle.book.proofs.FromTries.{add_tries}
use Rattle.book.proofs.Writes.{as_held}
use Rattle.store.proofs.Fresh.{need_least}
use Rattle.store_add.specs.Placed.{LookedUp, Placed}
use Rattle.store_add.proofs.Held.{held_back, held_beyond, held_size}
use Rattle.store.specs.Said.{refused}
use Rattle.store.specs.declared.refusal.Refusal.{Refusal}
use Rattle.store.proofs.Said.{refused_some}

-- a store that holds a book begins with its image
pub image_held : {store : List ℕ} {b : Book} → HoldsBook store b → store ≡ splice store 0 (image b)
unfolding image
image_held {store} {b} h = as_held h.holds (image_fits b h.sound)

-- looked up by the bytes of the entry's key
pub looked_up_entry : (m l : ℕ) (e : Entry) (bytes ended store : List ℕ) (w : Bool) → bytes ≡ bytes_of value_size e.value → ended ≡ e.path ++ (0 ∷ [])
    → LookedUp m l (key_of bytes ended e.reference) store w → LookedUp m l (entry_key e) store w
unfolding entry_key
looked_up_entry m l e bytes ended store w p q h = subst (λ (x : Key). LookedUp m l x store w) (λ i. key_of (p i) (q i) e.reference) h

module _ (store : List ℕ) (e : Entry) where
  abbrev number : ℕ
  number = add_number (length store) (front_of store) e

  same_number : (b : Book) → HoldsBook store b → number ≡ add_number (length store) (front b) e
  same_number b h = ap (λ (f : Front). add_number (length store) f e) (front_read h)

  -- REFUSED
  pub refuses : (n : ℕ) → number ≡ suc n → Adds e store store (reply (suc n) 0 0)
  unfolding step
  refuses n z =
      record {
        refused = λ k y. (ap (λ (x : ℕ). reply x 0 0) (sym z ∙ y), refl);
        otherwise = λ y. absurd (let x : suc n ≡ 0 = sym z ∙ y in omega arith);
        ours = λ b h. rw (sym (same_number b h) ∙ z) (refl, image_held h);
      }

  pub refuses_with : (r : Refusal) → refused r ≡ reply number 0 0 → Adds e store store (refused r)
  refuses_with r z = go number z refl
    where
      go : (n : ℕ) → refused r ≡ reply n 0 0 → number ≡ n → Adds e store store (refused r)
      go zero q h = absurd (omega (arith, refused_some r, ap (λ (x : Reply). x.number) q))
      go (suc n) q h = subst (Adds e store store) (sym q) (refuses n h)

  module _ (z : number ≡ 0) where
    none_refuses : {A : Type 0} (n : ℕ) → number ≡ suc n → A
    none_refuses n y = absurd (let x : 0 ≡ suc n = sym z ∙ y in omega arith)

    stepped : (b : Book) (h : HoldsBook store b) (w : Bool) → has_in b.L (tries b) e ≡ w → step b (add (length store) e) ≡ admit w e b
    stepped b h w q = add_tries b h.sound (length store) e (sym (same_number b h) ∙ z) ∙ ap (λ (x : Bool). admit x e b) q

    module _ (m l : ℕ) (w : Bool) (m_is : m ≡ (front_of store).M) (l_is : l ≡ (front_of store).L) (found : LookedUp m l (entry_key e) store w) where
      looked : (b : Book) → HoldsBook store b → has_in b.L (tries b) e ≡ w
      unfolding has_in
      looked b h =
          let f = front_read h in
          let p : m ≡ b.M = m_is ∙ ap (λ (x : Front). x.M) f in
          let q : l ≡ b.L = l_is ∙ ap (λ (x : Front). x.L) f in
          sym (found (front b) (tries b) (sym p) (sym q) (tries_good b h.sound) h.holds ∙ ap (λ (k : ℕ). any (λ g. member root g (entry_key e)) (every k (tries b))) q)

      -- THERE ALREADY
      pub repeats : w ≡ true → (n : ℕ) → n ≡ (front_of store).held → Adds e store store (reply 100 n 0)
      repeats t n n-is =
          record {
            refused = λ k y. none_refuses k y;
            otherwise = λ y. record { number = inr (refl, refl); first = n-is; second = refl; size = refl; beyond = refl };
            ours = λ b h.
                rw (stepped b h true (looked b h ∙ t))
                (ap (λ (x : ℕ). reply 100 x 0) (n-is ∙ ap (λ (x : Front). x.held) (front_read h)), image_held h);
          }

      -- PUT IN
      pub puts : w ≡ false → typed (add (length store) e) ≡ true → need m l ≤ length store → (tau n : ℕ) → tau ≡ (front_of store).τ → n ≡ (front_of store).held
          → (placed after : List ℕ) → Placed m l tau n e store placed → after ≡ splice placed held_at (bytes_of 4 (n + 1)) → Adds e store after (reply 0 (n + 1) 0)
      puts t y enough tau n tau_is n-is placed after p a =
          let f = need_front m l in
          let long : front_size ≤ length placed = omega (arith, f, enough, p.size) in
          let room : front_room ≤ need m l = need_least m l (need m l) refl in
          let front_is : front_of after ≡ holding ((front_of store).held + 1) (front_of store) =
          ap front_of a ∙ held_back store placed (n + 1) (omega (arith, room, enough, p.size)) (omega (arith, room, enough)) p.front_kept ∙ ap (λ (k : ℕ). holding (k + 1) (front_of store)) n-is in
          record {
            refused = λ k y. none_refuses k y;
            otherwise = λ y.
                record {
                  number = inl (refl, front_is);
                  first = sym (ap (λ (x : Front). x.held) front_is ∙ ap (λ (k : ℕ). k + 1) (sym n-is));
                  second = refl;
                  size = ap length a ∙ held_size placed (n + 1) long ∙ p.size;
                  beyond = rw (← m_is, ← l_is) (ap (drop (need m l)) a ∙ held_beyond placed (n + 1) (need m l) f (omega (arith, enough, p.size)) ∙ p.beyond);
                };
            ours = λ b h. decided b h;
          }
        where
          decided : (b : Book) → HoldsBook store b
              → let o = step b (add (length store) e) in (reply 0 (n + 1) 0 ≡ o.result.reply) × (after ≡ splice store 0 (image o.book))
          decided b h =
              let g = front_read h in
              let m-b : m ≡ b.M = m_is ∙ ap (λ (x : Front). x.M) g in
              let l-b : l ≡ b.L = l_is ∙ ap (λ (x : Front). x.L) g in
              let tau-b : tau ≡ b.τ = tau_is ∙ ap (λ (x : Front). x.τ) g in
              let n-b : n ≡ held b = n-is ∙ ap (λ (x : Front). x.held) g in
              let new : has_in b.L (tries b) e ≡ false = looked b h ∙ t in
              let s' = put_sound (length store) b e h.sound (acceptable (length store) (front b) e (sym (same_number b h) ∙ z)) y (sym (looked_up b h.sound e) ∙ new) in
              rw (stepped b h false new)
              (ap (λ (x : ℕ). reply 0 (x + 1) 0) n-b, a ∙ ap (λ (x : ℕ). splice placed held_at (bytes_of 4 (x + 1))) n-b ∙ p.ours b h.sound s' h.holds m-b l-b tau-b n-b)
