-- Row 6: what the elements of the outer array are, one law for each way that `shape_of` goes. Assumes nothing.
use Rattle.json_text.proofs.TurnLaws.{no-elements, some-elements, one_element, comma, no-comma}
use Rattle.message.specs.inner.Shaping.{Shaped}
use Prim.Native.Nat.{ℕ, ◌+◌, ◌-◌, ◌≤◌, ◌<◌}
use Rattle.json_text.specs.Places.{past, follows, more, raw, elements, elements_from}
use Rattle.fields.proofs.GatherLaws.{spelled_few}
use Rattle.message.specs.Shape.{pair, tag_at, tag_of, object_of}
use Rattle.rules.specs.Names.{tags}
use Rattle.values.specs.Value.{word_spelled}
use borrow.Author.Tests.{eq-eqb, ne_eqb}
use lib.Dec.{eqb}
use lib.ListN.{length, get_or}
use mathlib.Core.Bool.{Bool, true, false, ◌&&◌, cond}
use mathlib.Core.List.{List, [], ◌∷◌}
use mathlib.Core.Path.{◌≡◌, refl, sym, ap, ◌∙◌}
use native.Mathlib.Decide.{ℕ_discrete}
use native.Mathlib.Omega.{arith}

-- not this shape
abbrev pub Shapeless : List ℕ → Type 0
Shapeless s = 0 ≡ tag_of s

pick_pair : (ps : List ℕ) (f : ℕ → ℕ → ℕ) (b : Bool) → ((x y : ℕ) → ps ≡ x ∷ y ∷ [] → f x y ≡ 0) → 0 ≡ cond b (pair ps f) 0
pick_pair ps f false h = refl
pick_pair [] f true h = refl
pick_pair (x ∷ []) f true h = refl
pick_pair (x ∷ y ∷ []) f true h = sym (h x y refl)
pick_pair (x ∷ y ∷ z ∷ zs) f true h = refl

module _ (s : List ℕ) {o : ℕ} (at-o : o ≡ past s 0) where
  pub no-array : (get_or s o 0 ≡ 91 → ⊥) → Shapeless s
  unfolding tag_of
  no-array ne = rw (← at-o, ne_eqb _ _ ne)

  -- by the elements
  abbrev Unlike : ℕ → ℕ → Type 0
  Unlike x y = tag_at s x y ≡ 0

  by-pair : ((x y : ℕ) → elements s o ≡ x ∷ y ∷ [] → Unlike x y) → Shapeless s
  unfolding tag_of
  by-pair h = rw (← at-o) (pick_pair (elements s o) (tag_at s) (eqb (get_or s o 0) 91) h)

  module _ {x : ℕ} (at_x : x ≡ past s (o + 1)) where
    not-string : (a y : ℕ) → (get_or s a 0 ≡ 34 → ⊥) → Unlike a y
    unfolding tag_at
    not-string a y ne = rw (ne_eqb _ _ ne)

    head_of : {a b : ℕ} {u v : List ℕ} → ◌≡◌ {A = List ℕ} (a ∷ u) (b ∷ v) → a ≡ b
    head_of e = cc

    tail_of : {a b : ℕ} {u v : List ℕ} → ◌≡◌ {A = List ℕ} (a ∷ u) (b ∷ v) → u ≡ v
    tail_of e = cc

    nil-cons : {A : Type 0} {b : ℕ} {v : List ℕ} → ◌≡◌ {A = List ℕ} [] (b ∷ v) → A
    nil-cons e = absurd (let z : ◌≡◌ {A = ℕ} 0 1 = cc in omega arith)

    module _ (n : ℕ) (size : length s ≡ n) (some : 0 < n) where
      pub no-tag : (get_or s x 0 ≡ 34 → ⊥) → Shapeless s
      no-tag ne = by-pair (λ a y e. by_first a y e (ℕ_discrete (get_or s x 0) 93))
        where
          by_first : (a y : ℕ) → elements s o ≡ a ∷ y ∷ [] → Dec (get_or s x 0 ≡ 93) → Unlike a y
          by_first a y e (yes f) = nil-cons (sym (no-elements s o at_x f) ∙ e)
          by_first a y e (no f) =
              let l = sym (some-elements s o at_x f ∙ one_element s (length s) (o + 1) (omega arith) at_x) ∙ e in
              let z : x ≡ a = head_of l in
              rw (← z) (not-string x y ne)

      module _ (string : get_or s x 0 ≡ 34) where
        listed : elements s o ≡ x ∷ more s (elements_from (n - 1) s) x
        listed = rw (← size) (some-elements s o at_x (λ f. omega (arith, string, f)) ∙ one_element s (length s) (o + 1) (omega arith) at_x)

        module _ {c : ℕ} (at_c : c ≡ follows s x) where
          pub one-alone : (get_or s c 0 ≡ 44 → ⊥) → Shapeless s
          one-alone ne = by-pair (λ a y e. nil-cons (sym (no-comma s (elements_from (n - 1) s) x at_c ne) ∙ tail_of (sym listed ∙ e)))

          module _ (more-one : get_or s c 0 ≡ 44) (more-fuel : 0 < n - 1) {y : ℕ} (at_y : y ≡ past s (c + 1)) where
            two-listed : elements s o ≡ x ∷ y ∷ more s (elements_from (n - 1 - 1) s) y
            two-listed =
                listed ∙ ap (λ (l : List ℕ). x ∷ l)
                (comma s (elements_from (n - 1) s) x at_c more-one ∙ one_element s (n - 1) (c + 1) more-fuel at_y)

            pub no-object : (get_or s y 0 ≡ 123 → ⊥) → Shapeless s
            unfolding tag_at
            no-object ne =
                by-pair (λ a b e.
                let h : x ≡ a = head_of (sym two-listed ∙ e) in
                let g : y ≡ b = head_of (tail_of (sym two-listed ∙ e)) in
                rw (← h, ← g, eq-eqb _ _ string, ne_eqb _ _ ne))

            module _ {z : ℕ} (at-z : z ≡ follows s y) where
              pub three : get_or s z 0 ≡ 44 → 0 < n - 1 - 1 → Shapeless s
              three f g =
                  by-pair (λ a b e.
                  nil-cons (sym (tail_of (tail_of (sym two-listed ∙ e)))
                  ∙ comma s (elements_from (n - 1 - 1) s) y at-z f ∙ one_element s (n - 1 - 1) (z + 1) g refl))

              pub a_pair : get_or s o 0 ≡ 91 → get_or s y 0 ≡ 123 → (get_or s z 0 ≡ 44 → ⊥) → y < length s → {name : List ℕ} {tag : ℕ} → name ≡ raw s x
                  → tag ≡ word_spelled tags name
                  → Shaped s tag y
              unfolding tag_of tag_at object_of
              a_pair array object ne inside {name} {tag} e f =
                  let two : elements s o ≡ x ∷ y ∷ [] = two-listed ∙ ap (λ (l : List ℕ). x ∷ y ∷ l) (no-comma s (elements_from (n - 1 - 1) s) y at-z ne) in
                  record {
                    is = f ∙ rw (← at-o, eq-eqb _ _ array, two, eq-eqb _ _ string, eq-eqb _ _ object, e);
                    few = omega (arith, f, spelled_few tags name);
                    opens = rw (← at-o, two);
                    inside = inside;
                  }

-- the tag is one of four
few-pair : (ps : List ℕ) (f : ℕ → ℕ → ℕ) → ((x y : ℕ) → f x y ≤ 4) → pair ps f ≤ 4
few-pair [] f h = omega arith
few-pair (x ∷ []) f h = omega arith
few-pair (x ∷ y ∷ []) f h = h x y
few-pair (x ∷ y ∷ z ∷ zs) f h = omega arith

pick_le : (b : Bool) (a n : ℕ) → a ≤ n → cond b a 0 ≤ n
pick_le true a n h = h
pick_le false a n h = omega arith

pub tag-few : (s : List ℕ) → tag_of s ≤ 4
unfolding tag_of tag_at
tag-few s =
    pick_le (eqb (get_or s (past s 0) 0) 91) (pair (elements s (past s 0)) (tag_at s)) 4
    (few-pair (elements s (past s 0)) (tag_at s)
    (λ x y. pick_le (eqb (get_or s x 0) 34 && eqb (get_or s y 0) 123) (word_spelled tags (raw s x)) 4 (omega (arith, spelled_few tags (raw s x)))))
