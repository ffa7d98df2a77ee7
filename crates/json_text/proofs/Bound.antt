-- The places of a text's values are as many as its values (`agree`); and twice their number is at most the bytes and one, however deep (`bound`), which
-- `[1,2]` meets (`met`). Assumes nothing.
use mathlib.Core.Path.{◌≡◌, refl, ap, ◌∙◌}
use mathlib.Core.List.{List, [], ◌∷◌, ◌++◌, append-nil}
use Prim.Native.Nat.{ℕ, zero, suc, ◌+◌, ◌*◌, ◌≤◌}
use native.Mathlib.Omega.{arith}
use lib.ListN.{length, length-append}
use Rattle.json_text.specs.Rfc7159.{Rule, Bytes, bytes, Byte, Range, range, ◌⨾◌, both, ◌or◌, left, right, Opt, absent, present, Star, none, more, ws, number, int, string}
use Rattle.json_text.specs.Rfc7159.{value_separator, member, value, JSON-text}
use Rattle.json_text.specs.Values.{Counts, count_more, count_in, count_member, count_value, count, Finds, nothing, along, each, bracketed, behind_name, value_places}
use Rattle.json_text.specs.Values.{places}

-- The places of values are as many as the values.
abbrev Agree : (A : Rule) → Counts A → Finds A → Type 0
Agree A f g = (s : List ℕ) (x : A s) (i : ℕ) → length (g s x i) ≡ f s x

sum : (a b : List ℕ) (m n : ℕ) → length a ≡ m → length b ≡ n → length (a ++ b) ≡ m + n
sum a b m n e q = omega (arith, length-append a b)

module _ (X : Rule) (f : Counts X) (g : Finds X) (h : Agree X f g) where
  abbrev later : Finds (Star (value_separator ⨾ X))
  later = each _ (along value_separator X (nothing _) g)

  more-agree : Agree (Star (value_separator ⨾ X)) (count_more X f) later
  more-agree s none i = refl
  more-agree s (more {s = p} {t = u} (both {s = c} {t = v} y x) r) i = sum (g v x (i + length c)) (later u r (i + length p)) (f v x) (count_more X f u r) (h v x (i + length c))
      (more-agree u r (i + length p))

  in_agree : (b : ℕ) (E : Rule) → Agree ((ws ⨾ Byte b ⨾ ws) ⨾ Opt (X ⨾ Star (value_separator ⨾ X)) ⨾ E) (count_in _ X E f) (bracketed b X E g)
  in_agree b E s (both (both w k) (both absent e)) i = refl
  in_agree b E s (both {s = o} (both w k) (both (present (both {s = v} {t = u} x r)) e)) i =
      let a : List ℕ = g v x (i + length o) in
      let b : List ℕ = later u r (i + length o + length v) in
      let q : length (a ++ b) ≡ f v x + count_more X f u r = sum a b (f v x) (count_more X f u r) (h v x (i + length o)) (more-agree u r (i + length o + length v)) in
      let z : length ((a ++ b) ++ []) ≡ length (a ++ b) = ap length (append-nil (a ++ b)) in
      omega arith

  member-agree : Agree (member X) (count_member X f) (behind_name X g)
  member-agree s (both {s = n} y (both {s = c} {t = v} z x)) i = h v x (i + length n + length c)

value-agree : (d : ℕ) → Agree (value d) (count_value d) (value_places d)
value-agree zero s x i = refl
value-agree (suc d) s (left x) i = refl
value-agree (suc d) s (right (left x)) i = refl
value-agree (suc d) s (right (right (left x))) i = refl
value-agree (suc d) s (right (right (right (left o)))) i = in_agree (member (value d)) (count_member (value d) (count_value d)) (behind_name (value d) (value_places d))
    (member-agree (value d) (count_value d) (value_places d) (value-agree d)) 0x7B _ s o i
value-agree (suc d) s (right (right (right (right (left a))))) i = in_agree (value d) (count_value d) (value_places d) (value-agree d) 0x5B _ s a i
value-agree (suc d) s (right (right (right (right (right x))))) i = refl

pub agree : (d : ℕ) (s : List ℕ) (x : JSON-text d s) → length (places d s x) ≡ count d s x
agree d s (both {s = w} y (both {s = v} x z)) = ap length (append-nil (value_places d v x (0 + length w))) ∙ value-agree d v x (0 + length w)

-- what A derives has a byte
abbrev Inked : Rule → Type 0
Inked A = (s : List ℕ) → A s → 1 ≤ length s

ink-byte : (b : ℕ) → Inked (Byte b)
ink-byte b s bytes = omega arith

ink-range : (a z : ℕ) → Inked (Range a z)
ink-range a z s (range l u) = omega arith

ink-first : (A B : Rule) → Inked A → Inked (A ⨾ B)
ink-first A B f s (both {s = p} {t = q} x y) = omega (arith, f p x, length-append p q)

ink-second : (A B : Rule) → Inked B → Inked (A ⨾ B)
ink-second A B f s (both {s = p} {t = q} x y) = omega (arith, f q y, length-append p q)

ink-or : (A B : Rule) → Inked A → Inked B → Inked (A or B)
ink-or A B f g s (left x) = f s x
ink-or A B f g s (right x) = g s x

ink-only : (b : ℕ) → Inked (ws ⨾ Byte b ⨾ ws)
ink-only b = ink-second ws _ (ink-first (Byte b) ws (ink-byte b))

ink-number : Inked number
ink-number = ink-second _ _ (ink-first int _ (ink-or _ _ (ink-byte 0x30) (ink-first _ _ (ink-range 0x31 0x39))))

ink-string : Inked string
ink-string = ink-first _ _ (ink-byte 0x22)

ink-bytes : (b : ℕ) (w : List ℕ) → Inked (Bytes (b ∷ w))
ink-bytes b w s bytes = omega arith

ink_scalar : Inked (value 0)
ink_scalar = ink-or _ _ (ink-bytes _ _) (ink-or _ _ (ink-bytes _ _) (ink-or _ _ (ink-bytes _ _) (ink-or _ _ ink-number ink-string)))

-- twice the count is at most the bytes and one
abbrev Bounded : (A : Rule) → Counts A → Type 0
Bounded A f = (s : List ℕ) (x : A s) → 2 * f s x ≤ length s + 1

module _ (X : Rule) (f : Counts X) (h : Bounded X f) where
  more-bound : (s : List ℕ) (x : Star (value_separator ⨾ X) s) → 2 * count_more X f s x ≤ length s
  more-bound s none = omega arith
  more-bound s (more {t = u} (both {s = c} {t = v} y x) r) =
      omega (arith, ink-only 0x2C c y, h v x, more-bound u r, length-append c v, length-append (c ++ v) u)

  in_bound : (B E : Rule) → Inked B → Inked E → Bounded (B ⨾ Opt (X ⨾ Star (value_separator ⨾ X)) ⨾ E) (count_in B X E f)
  in_bound B E k l s (both {s = p} b (both {t = q} absent e)) = omega (arith, k p b, l q e, length-append p q)
  in_bound B E k l s (both {s = p} b (both {t = q} (present (both {s = v} {t = u} x r)) e)) =
      omega (arith, k p b, l q e, h v x, more-bound u r, length-append v u, length-append (v ++ u) q, length-append p ((v ++ u) ++ q))

  member-bound : Bounded (member X) (count_member X f)
  member-bound s (both {s = n} y (both {s = c} {t = v} z x)) = omega (arith, h v x, length-append c v, length-append n (c ++ v))

value-bound : (d : ℕ) → Bounded (value d) (count_value d)
value-bound zero s x = omega (arith, ink_scalar s x)
value-bound (suc d) s (left x) = omega (arith, ink-bytes _ _ s x)
value-bound (suc d) s (right (left x)) = omega (arith, ink-bytes _ _ s x)
value-bound (suc d) s (right (right (left x))) = omega (arith, ink-bytes _ _ s x)
value-bound (suc d) s (right (right (right (left o)))) = in_bound (member (value d)) (count_member (value d) (count_value d))
    (member-bound (value d) (count_value d) (value-bound d))
    _ _ (ink-only 0x7B) (ink-only 0x7D) s o
value-bound (suc d) s (right (right (right (right (left a))))) = in_bound (value d) (count_value d) (value-bound d) _ _ (ink-only 0x5B) (ink-only 0x5D) s a
value-bound (suc d) s (right (right (right (right (right (left x)))))) = omega (arith, ink-number s x)
value-bound (suc d) s (right (right (right (right (right (right x)))))) = omega (arith, ink-string s x)

-- THEOREM, of every JSON text, of any depth: twice its values are at most its bytes and one.
pub bound : (d : ℕ) (s : List ℕ) (x : JSON-text d s) → 2 * count d s x ≤ length s + 1
bound d s (both {s = w} y (both {s = v} {t = u} x z)) = omega (arith, value-bound d v x, length-append v u, length-append w (v ++ u))

-- `[1,2]` has three values at 0, 1 and 3, and meets the bound: twice three is its five bytes and one.
digit : (b : ℕ) → 0x31 ≤ b → b ≤ 0x39 → value 0 (b ∷ [])
digit b l u = right (right (right (left (both absent (both (right (both (range l u) none)) (both absent absent))))))

abbrev pub two : List ℕ
two = 0x5B ∷ 0x31 ∷ 0x2C ∷ 0x32 ∷ 0x5D ∷ []

pub pair : JSON-text 1 two
pair =
    both none (both (right (right (right (right (left
    (both (both none (both bytes none))
    (both (present (both (digit 0x31 (omega arith) (omega arith)) (more (both (both none (both bytes none)) (digit 0x32 (omega arith) (omega arith))) none)))
    (both none (both bytes none))))))))) none)

pair-places : places 1 two pair ≡ 0 ∷ 1 ∷ 3 ∷ []
unfolding pair digit
pair-places = refl

pub met : 2 * count 1 two pair ≡ length two + 1
unfolding pair digit
met = refl
