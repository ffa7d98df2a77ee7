-- What the places list where members or elements are written, with white space anywhere: those members and elements, in order, with their own bytes.
-- Places go by what stands from there on (`drop a s`), so the text before does not matter. Cited by proofs/PlaceTie.antt and by crate `frame`. Assumes nothing.
use mathlib.Core.Path.{◌≡◌, refl, sym, ap, ◌∙◌}
use mathlib.Core.Bool.{true, false}
use mathlib.Core.List.{List, [], ◌∷◌, ◌++◌, map}
use Prim.Native.Nat.{ℕ, zero, suc, ◌+◌, ◌-◌, ◌<◌}
use native.Mathlib.Omega.{arith}
use lib.ListN.{length, get_or, drop, length-append, length-drop}
use lib.Seq.{drop-drop, get_or-drop, drop-append_seam, take-append_seam}
use lib.Dec.{eqb}
use Rattle.json_text.specs.Places.{part, spaces, past, left, quoted, size, behind, bytes, closing, raw, next, value_of, follows, more, member_at, members_from}
use Rattle.json_text.specs.Places.{members, elements_from, elements, spell, is_ws}
use Rattle.json_text.proofs.PlaceLaws.{next-is}

-- Places by what stands from there on.
pub at-skip : (u t s : List ℕ) (a : ℕ) → drop a s ≡ u ++ t → drop (a + length u) s ≡ t
at-skip u t s a e = sym (drop-drop (length u) a s) ∙ ap (drop (length u)) e ∙ drop-append_seam u t

pub at_next : (b : ℕ) (t s : List ℕ) (a : ℕ) → drop a s ≡ b ∷ t → drop (a + 1) s ≡ t
at_next b t s a e = at-skip (b ∷ []) t s a e

pub at_byte : (b : ℕ) (t s : List ℕ) (a : ℕ) → drop a s ≡ b ∷ t → get_or s a 0 ≡ b
at_byte b t s a e = let z : a ≡ a + 0 = omega arith in ap (λ (x : ℕ). get_or s x 0) z ∙ sym (get_or-drop a s 0 0) ∙ ap (λ (l : List ℕ). get_or l 0 0) e

pub at_part : (u t s : List ℕ) (a : ℕ) → drop a s ≡ u ++ t → part s a (a + length u) ≡ u
unfolding part
at_part u t s a e = let z : a + length u - a ≡ length u = omega arith in rw (z, e) (take-append_seam u t)

pub at-inside : (b : ℕ) (t s : List ℕ) (a : ℕ) → drop a s ≡ b ∷ t → a < length s
at-inside b t s a e = omega (arith, length-drop a s, ap length e)

-- White space, and what is none.
abbrev pub Ink : List ℕ → Type 0
Ink [] = ⊥
Ink (b ∷ t) = is_ws b ≡ false

abbrev pub Blank : List ℕ → Type 0
Blank [] = Unit
Blank (b ∷ w) = (is_ws b ≡ true) × Blank w

-- a value begins: no white space, and no closing bracket
abbrev pub Starts : List ℕ → Type 0
Starts [] = ⊥
Starts (b ∷ v) = (is_ws b ≡ false) × (eqb b 93 ≡ false)

pub starts-ink : (v t : List ℕ) → Starts v → Ink (v ++ t)
starts-ink [] t o = absurd o
starts-ink (b ∷ v) t o = o.0

pub ws_123 : is_ws 123 ≡ false
unfolding is_ws
ws_123 = refl

pub ws_125 : is_ws 125 ≡ false
unfolding is_ws
ws_125 = refl

pub ws_91 : is_ws 91 ≡ false
unfolding is_ws
ws_91 = refl

pub ws_93 : is_ws 93 ≡ false
unfolding is_ws
ws_93 = refl

pub ws_44 : is_ws 44 ≡ false
unfolding is_ws
ws_44 = refl

pub ws_34 : is_ws 34 ≡ false
unfolding is_ws
ws_34 = refl

ws_58 : is_ws 58 ≡ false
unfolding is_ws
ws_58 = refl

spaces-over : (w t : List ℕ) → Blank w → Ink t → spaces (w ++ t) ≡ length w
unfolding spaces
spaces-over [] [] h o = absurd o
spaces-over [] (b ∷ t) h o = simp o
spaces-over (b ∷ w) t h o = simp h.0 (ap suc (spaces-over w t h.1 o))

pub past_is : (s w t : List ℕ) (a : ℕ) → Blank w → Ink t → drop a s ≡ w ++ t → past s a ≡ a + length w
unfolding past
past_is s w t a h o e = ap (λ (l : List ℕ). a + spaces l) e ∙ ap (λ (n : ℕ). a + n) (spaces-over w t h o)

pub past-at : (s w t : List ℕ) (a : ℕ) → Blank w → Ink t → drop a s ≡ w ++ t → drop (past s a) s ≡ t
past-at s w t a h o e = ap (λ (n : ℕ). drop n s) (past_is s w t a h o e) ∙ at-skip w t s a e

-- v is a value in front of t: the scan ends where it does
pub record Sized (v t : List ℕ) : Type 0 where
  pub starts : Starts v
  pub ends : size (v ++ t) ≡ length v

pub behind-is : (s v t : List ℕ) (a : ℕ) → Sized v t → drop a s ≡ v ++ t → behind s a ≡ a + length v
unfolding behind
behind-is s v t a h e = ap (λ (l : List ℕ). a + size l) e ∙ ap (λ (n : ℕ). a + n) h.ends

pub bytes-is : (s v t : List ℕ) (a : ℕ) → Sized v t → drop a s ≡ v ++ t → bytes s a ≡ v
bytes-is s v t a h e = ap (part s a) (behind-is s v t a h e) ∙ at_part v t s a e

-- n stands between the quotes of a name
pub record Label (n : List ℕ) : Type 0 where
  pub closes : (t : List ℕ) → left (n ++ (34 ∷ t)) quoted 0 ≡ suc (length n)

label-size : (n t : List ℕ) → Label n → size (34 ∷ (n ++ (34 ∷ t))) ≡ length n + 2
unfolding size
label-size n t h = omega (arith, h.closes t)

pub name-end : (s n t : List ℕ) (q : ℕ) → Label n → drop q s ≡ 34 ∷ (n ++ (34 ∷ t)) → behind s q ≡ q + length n + 2
unfolding behind
name-end s n t q h e = omega (arith, ap size e, label-size n t h)

pub name-is : (s n t : List ℕ) (q : ℕ) → Label n → drop q s ≡ 34 ∷ (n ++ (34 ∷ t)) → raw s q ≡ n
unfolding raw closing
name-is s n t q h e =
    let z : behind s q - 1 ≡ q + 1 + length n = omega (arith, name-end s n t q h e) in
    ap (part s (q + 1)) z ∙ at_part n (34 ∷ t) s (q + 1) (at_next 34 _ s q e)

-- a member as it is written: w "n" w₁ : w₂ v u
pub record Field : Type 0 where
  pub w : List ℕ
  pub n : List ℕ
  pub w₁ : List ℕ
  pub w₂ : List ℕ
  pub v : List ℕ
  pub u : List ℕ

unfoldable pub entry : Field → List ℕ → List ℕ
entry f t = f.w ++ (34 ∷ (f.n ++ (34 ∷ (f.w₁ ++ (58 ∷ (f.w₂ ++ (f.v ++ (f.u ++ t))))))))

-- a member up to its value
unfoldable pub ahead_of : Field → List ℕ
ahead_of f = f.w ++ (34 ∷ (f.n ++ (34 ∷ (f.w₁ ++ (58 ∷ f.w₂)))))

-- the members f and fs behind '{' or ',', the closing brace and t
unfoldable pub body : Field → List Field → List ℕ → List ℕ
body f [] t = entry f (125 ∷ t)
body f (g ∷ gs) t = entry f (44 ∷ body g gs t)

-- an element as it is written: w v u
pub record Item : Type 0 where
  pub w : List ℕ
  pub v : List ℕ
  pub u : List ℕ

unfoldable pub item : Item → List ℕ → List ℕ
item i t = i.w ++ (i.v ++ (i.u ++ t))

-- the elements i and is behind '[' or ',', the closing bracket and t
unfoldable pub items : Item → List Item → List ℕ → List ℕ
items i [] t = item i (93 ∷ t)
items i (j ∷ js) t = item i (44 ∷ items j js t)

-- a member as its name's and its value's bytes, and an element as its bytes
abbrev pub read : Field → List ℕ × List ℕ
read f = (f.n, f.v)

abbrev pub read_all : List Field → List (List ℕ × List ℕ)
read_all fs = map read fs

abbrev pub values : List Item → List (List ℕ)
values is = map (λ (i : Item). i.v) is

-- the places of the elements i and is behind '[' or ',' at a: where they end, and where they start
unfoldable pub stops_at : ℕ → Item → List Item → List ℕ
stops_at a i [] = (a + length i.w + length i.v) ∷ []
stops_at a i (j ∷ js) = (a + length i.w + length i.v) ∷ stops_at (a + length i.w + length i.v + length i.u + 1) j js

unfoldable pub starts_at : ℕ → Item → List Item → List ℕ
starts_at a i [] = (a + length i.w) ∷ []
starts_at a i (j ∷ js) = (a + length i.w) ∷ starts_at (a + length i.w + length i.v + length i.u + 1) j js

-- What is asked of a member and of an element, over X, what is asked of a value in front of what follows it, and N, what is asked of a name.
pub record Fine (X : List ℕ → List ℕ → Type 0) (N : List ℕ → Type 0) (f : Field) (b : ℕ) : Type 0 where
  pub before : Blank f.w
  pub named : N f.n
  pub before₁ : Blank f.w₁
  pub before₂ : Blank f.w₂
  pub val : (t : List ℕ) → X f.v (f.u ++ (b ∷ t))
  pub behind : Blank f.u

abbrev pub Fines : (List ℕ → List ℕ → Type 0) → (List ℕ → Type 0) → Field → List Field → Type 0
Fines X N f [] = Fine X N f 125
Fines X N f (g ∷ gs) = Fine X N f 44 × Fines X N g gs

pub record Good (X : List ℕ → List ℕ → Type 0) (i : Item) (b : ℕ) : Type 0 where
  pub before : Blank i.w
  pub val : (t : List ℕ) → X i.v (i.u ++ (b ∷ t))
  pub behind : Blank i.u

abbrev pub Goods : (List ℕ → List ℕ → Type 0) → Item → List Item → Type 0
Goods X i [] = Good X i 93
Goods X i (j ∷ js) = Good X i 44 × Goods X j js

paired : {A B : Type 0} {a a' : A} {b b' : B} → a ≡ a' → b ≡ b' → ◌≡◌ {A = A × B} (a, b) (a', b')
paired {A} {B} {a} {a'} {b} {b'} p q = ap (λ (x : A). (x, b)) p ∙ ap (λ (y : B). (a', y)) q

pub more-on : (s t : List ℕ) (g : ℕ → List ℕ) (v : ℕ) → drop (follows s v) s ≡ 44 ∷ t → more s g v ≡ g (follows s v + 1)
unfolding more
more-on s t g v e = rw (at_byte 44 t s (follows s v) e)

pub more_off : (b : ℕ) (s t : List ℕ) (g : ℕ → List ℕ) (v : ℕ) → eqb b 44 ≡ false → drop (follows s v) s ≡ b ∷ t → more s g v ≡ []
unfolding more
more_off b s t g v h e = rw (at_byte b t s (follows s v) e) (rw h)

pub member_is : (s : List ℕ) (g : ℕ → List ℕ) (q : ℕ) → get_or s q 0 ≡ 34 → member_at s g q ≡ q ∷ more s g (value_of s q)
unfolding member_at
member_is s g q e = rw e

-- what is found of a member
pub record FoundField (s : List ℕ) (a : ℕ) (f : Field) (t : List ℕ) : Type 0 where
  pub quote : get_or s (past s a) 0 ≡ 34
  pub spelt : spell s (past s a) ≡ read f
  pub at : value_of s (past s a) ≡ a + length (ahead_of f)
  pub next : follows s (value_of s (past s a)) ≡ a + length (ahead_of f) + length f.v + length f.u
  pub rest : drop (follows s (value_of s (past s a))) s ≡ t

-- and of an element
pub record FoundItem (s : List ℕ) (a : ℕ) (i : Item) (t : List ℕ) : Type 0 where
  pub start : drop (past s a) s ≡ i.v ++ (i.u ++ t)
  pub at : past s a ≡ a + length i.w
  pub end : behind s (past s a) ≡ past s a + length i.v
  pub next : follows s (past s a) ≡ past s a + length i.v + length i.u
  pub rest : drop (follows s (past s a)) s ≡ t

module _ (X : List ℕ → List ℕ → Type 0) (N : List ℕ → Type 0) (sized : (v t : List ℕ) → X v t → Sized v t) (label : (n : List ℕ) → N n → Label n) where
  pub entry_read : (b : ℕ) (s : List ℕ) (a : ℕ) (f : Field) (t : List ℕ) → Fine X N f b → is_ws b ≡ false → drop a s ≡ entry f (b ∷ t) → FoundField s a f (b ∷ t)
  unfolding entry value_of follows ahead_of
  entry_read b s a f t h o e =
      let q = past s a in
      let sz = sized f.v _ (h.val t) in
      let lb = label f.n h.named in
      let e₁ = past-at s f.w _ a h.before ws_34 e in
      let ne = name-end s f.n _ q lb e₁ in
      let e₂ = at_next 34 _ s q e₁ in
      let e₃ = at-skip f.n _ s (q + 1) e₂ in
      let e₄ = at_next 34 _ s (q + 1 + length f.n) e₃ in
      let x₁ = q + 1 + length f.n + 1 in
      let n₁ : behind s q ≡ x₁ = omega arith in
      let e₅ = past-at s f.w₁ _ x₁ h.before₁ ws_58 e₄ in
      let e₆ = at_next 58 _ s (past s x₁) e₅ in
      let n₂ = next-is s (past s x₁) (at-inside 58 _ s (past s x₁) e₅) in
      let e₇ = past-at s f.w₂ _ (past s x₁ + 1) h.before₂ (starts-ink f.v _ sz.starts) e₆ in
      let x = past s (past s x₁ + 1) in
      let vo : past s (next s (past s (behind s q))) ≡ x = ap (λ (y : ℕ). past s (next s (past s y))) n₁ ∙ ap (past s) n₂ in
      let be = behind-is s f.v _ x sz e₇ in
      let p₁ = past_is s f.w _ a h.before ws_34 e in
      let p₂ = past_is s f.w₁ _ x₁ h.before₁ ws_58 e₄ in
      let p₃ = past_is s f.w₂ _ (past s x₁ + 1) h.before₂ (starts-ink f.v _ sz.starts) e₆ in
      let va : x ≡ a + length (f.w ++ (34 ∷ (f.n ++ (34 ∷ (f.w₁ ++ (58 ∷ f.w₂)))))) = simp length-append (omega (arith, p₁, p₂, p₃)) in
      let e₈ = at-skip f.v _ s x e₇ in
      record {
        quote = at_byte 34 _ s q e₁;
        spelt = paired (name-is s f.n _ q lb e₁) (ap (bytes s) vo ∙ bytes-is s f.v _ x sz e₇);
        at = vo ∙ va;
        next = rw vo (rw be (past_is s f.u (b ∷ t) (x + length f.v) h.behind o e₈ ∙ ap (λ (y : ℕ). y + length f.v + length f.u) va));
        rest = rw vo (rw be (past-at s f.u (b ∷ t) (x + length f.v) h.behind o e₈));
      }

  -- THE LAW: the members of an object text are those that were written, in order, wherever it stands
  pub members-read : (n : ℕ) (s : List ℕ) (a : ℕ) (f : Field) (fs : List Field) (t : List ℕ) → Fines X N f fs → length fs < n → drop a s ≡ body f fs t
      → map (spell s) (members_from n s a) ≡ read_all (f ∷ fs)
  unfolding members_from body
  members-read zero s a f fs t h c e = absurd (omega arith)
  members-read (suc n) s a f [] t h c e =
      let r = entry_read 125 s a f t h ws_125 e in
      ap (map (spell s)) (member_is s (members_from n s) (past s a) r.quote
      ∙ ap (λ (z : List ℕ). past s a ∷ z) (more_off 125 s t (members_from n s) (value_of s (past s a)) refl r.rest)) ∙ ap (λ (p : List ℕ × List ℕ). p ∷ []) r.spelt
  members-read (suc n) s a f (g ∷ gs) t h c e =
      let r = entry_read 44 s a f (body g gs t) h.0 ws_44 e in
      let y = follows s (value_of s (past s a)) in
      let ih = members-read n s (y + 1) g gs t h.1 (omega arith) (at_next 44 _ s y r.rest) in
      ap (map (spell s)) (member_is s (members_from n s) (past s a) r.quote
      ∙ ap (λ (z : List ℕ). past s a ∷ z) (more-on s (body g gs t) (members_from n s) (value_of s (past s a)) r.rest))
      ∙ ap (λ (p : List ℕ × List ℕ). p ∷ map (spell s) (members_from n s (y + 1))) r.spelt ∙ ap (λ (z : List (List ℕ × List ℕ)). read f ∷ z) ih

module _ (X : List ℕ → List ℕ → Type 0) (sized : (v t : List ℕ) → X v t → Sized v t) where
  pub item-read : (b : ℕ) (s : List ℕ) (a : ℕ) (i : Item) (t : List ℕ) → Good X i b → is_ws b ≡ false → drop a s ≡ item i (b ∷ t) → FoundItem s a i (b ∷ t)
  unfolding item follows
  item-read b s a i t h o e =
      let sz = sized i.v _ (h.val t) in
      let e₁ = past-at s i.w _ a h.before (starts-ink i.v _ sz.starts) e in
      let be = behind-is s i.v _ (past s a) sz e₁ in
      let e₂ = at-skip i.v _ s (past s a) e₁ in
      record {
        start = e₁;
        at = past_is s i.w _ a h.before (starts-ink i.v _ sz.starts) e;
        end = be;
        next =
            rw be (past_is s i.u (b ∷ t) (past s a + length i.v) h.behind o e₂);
        rest = rw be (past-at s i.u (b ∷ t) (past s a + length i.v) h.behind o e₂);
      }

  item-bytes : (s : List ℕ) (a : ℕ) (i : Item) (t : List ℕ) → FoundItem s a i t → bytes s (past s a) ≡ i.v
  item-bytes s a i t r = ap (part s (past s a)) r.end ∙ at_part i.v _ s (past s a) r.start

  pub elements-read : (n : ℕ) (s : List ℕ) (a : ℕ) (i : Item) (is : List Item) (t : List ℕ) → Goods X i is → length is < n → drop a s ≡ items i is t
      → map (bytes s) (elements_from n s a) ≡ values (i ∷ is)
  unfolding elements_from items
  elements-read zero s a i is t h c e = absurd (omega arith)
  elements-read (suc n) s a i [] t h c e =
      let r = item-read 93 s a i t h ws_93 e in
      ap (λ (z : List ℕ). map (bytes s) (past s a ∷ z)) (more_off 93 s t (elements_from n s) (past s a) refl r.rest) ∙ ap (λ (p : List ℕ). p ∷ []) (item-bytes s a i (93 ∷ t) r)
  elements-read (suc n) s a i (j ∷ js) t h c e =
      let r = item-read 44 s a i (items j js t) h.0 ws_44 e in
      let y = follows s (past s a) in
      let ih = elements-read n s (y + 1) j js t h.1 (omega arith) (at_next 44 _ s y r.rest) in
      ap (λ (z : List ℕ). map (bytes s) (past s a ∷ z)) (more-on s (items j js t) (elements_from n s) (past s a) r.rest)
      ∙ ap (λ (p : List ℕ). p ∷ map (bytes s) (elements_from n s (y + 1))) (item-bytes s a i (44 ∷ items j js t) r) ∙ ap (λ (z : List (List ℕ)). i.v ∷ z) ih

  -- where the elements end, and where they start
  pub ends_read : (n : ℕ) (s : List ℕ) (a : ℕ) (i : Item) (is : List Item) (t : List ℕ) → Goods X i is → length is < n → drop a s ≡ items i is t
      → map (behind s) (elements_from n s a) ≡ stops_at a i is
  unfolding elements_from items stops_at
  ends_read zero s a i is t h c e = absurd (omega arith)
  ends_read (suc n) s a i [] t h c e =
      let r = item-read 93 s a i t h ws_93 e in
      ap (λ (z : List ℕ). map (behind s) (past s a ∷ z)) (more_off 93 s t (elements_from n s) (past s a) refl r.rest)
      ∙ ap (λ (p : ℕ). p ∷ []) (r.end ∙ ap (λ (x : ℕ). x + length i.v) r.at)
  ends_read (suc n) s a i (j ∷ js) t h c e =
      let r = item-read 44 s a i (items j js t) h.0 ws_44 e in
      let y = follows s (past s a) in
      let ih = ends_read n s (y + 1) j js t h.1 (omega arith) (at_next 44 _ s y r.rest) in
      let z : y + 1 ≡ a + length i.w + length i.v + length i.u + 1 = omega (arith, r.next, r.at) in
      ap (λ (z : List ℕ). map (behind s) (past s a ∷ z)) (more-on s (items j js t) (elements_from n s) (past s a) r.rest)
      ∙ ap (λ (p : ℕ). p ∷ map (behind s) (elements_from n s (y + 1))) (r.end ∙ ap (λ (x : ℕ). x + length i.v) r.at)
      ∙ ap (λ (q : List ℕ). (a + length i.w + length i.v) ∷ q) (ih ∙ ap (λ (x : ℕ). stops_at x j js) z)

  pub starts-read : (n : ℕ) (s : List ℕ) (a : ℕ) (i : Item) (is : List Item) (t : List ℕ) → Goods X i is → length is < n → drop a s ≡ items i is t
      → elements_from n s a ≡ starts_at a i is
  unfolding elements_from items starts_at
  starts-read zero s a i is t h c e = absurd (omega arith)
  starts-read (suc n) s a i [] t h c e =
      let r = item-read 93 s a i t h ws_93 e in
      ap (λ (z : List ℕ). past s a ∷ z) (more_off 93 s t (elements_from n s) (past s a) refl r.rest) ∙ ap (λ (p : ℕ). p ∷ []) r.at
  starts-read (suc n) s a i (j ∷ js) t h c e =
      let r = item-read 44 s a i (items j js t) h.0 ws_44 e in
      let y = follows s (past s a) in
      let ih = starts-read n s (y + 1) j js t h.1 (omega arith) (at_next 44 _ s y r.rest) in
      let z : y + 1 ≡ a + length i.w + length i.v + length i.u + 1 = omega (arith, r.next, r.at) in
      ap (λ (z : List ℕ). past s a ∷ z) (more-on s (items j js t) (elements_from n s) (past s a) r.rest) ∙ ap (λ (p : ℕ). p ∷ elements_from n s (y + 1)) r.at
      ∙ ap (λ (q : List ℕ). (a + length i.w) ∷ q) (ih ∙ ap (λ (x : ℕ). starts_at x j js) z)

  -- an array with elements does not close at once
  not_close : (v t s : List ℕ) (x : ℕ) → Starts v → drop x s ≡ v ++ t → eqb (get_or s x 0) 93 ≡ false
  not_close [] t s x o e = absurd o
  not_close (b ∷ v) t s x o e = rw (at_byte b (v ++ t) s x e) o.1

  item-first : (b : ℕ) (s : List ℕ) (a : ℕ) (i : Item) (t : List ℕ) → Good X i b → is_ws b ≡ false → drop a s ≡ item i (b ∷ t) → eqb (get_or s (past s a) 0) 93 ≡ false
  item-first b s a i t h o e = not_close i.v _ s (past s a) (sized i.v _ (h.val t)).starts (item-read b s a i t h o e).start

  items-first : (s : List ℕ) (a : ℕ) (i : Item) (is : List Item) (t : List ℕ) → Goods X i is → drop a s ≡ items i is t → eqb (get_or s (past s a) 0) 93 ≡ false
  unfolding items
  items-first s a i [] t h e = item-first 93 s a i t h ws_93 e
  items-first s a i (j ∷ js) t h e = item-first 44 s a i (items j js t) h.0 ws_44 e

  pub elements-at : (s : List ℕ) (o : ℕ) (i : Item) (is : List Item) (t : List ℕ) → Goods X i is → drop o s ≡ 91 ∷ items i is t → elements s o ≡ elements_from (length s) s (o + 1)
  unfolding elements
  elements-at s o i is t h e = rw (items-first s (o + 1) i is t h (at_next 91 _ s o e))

-- an array or object text has more bytes than elements or members
pub items-long : (i : Item) (is : List Item) (t : List ℕ) → length is < length (items i is t)
unfolding items item
items-long i [] t = simp length-append (omega arith)
items-long i (j ∷ js) t = simp length-append (omega (arith, items-long j js t))

pub body-long : (f : Field) (fs : List Field) (t : List ℕ) → length fs < length (body f fs t)
unfolding body entry
body-long f [] t = simp length-append (omega arith)
body-long f (g ∷ gs) t = simp length-append (omega (arith, body-long g gs t))

module _ (X : List ℕ → List ℕ → Type 0) (sized : (v t : List ℕ) → X v t → Sized v t) (s : List ℕ) (o : ℕ) (i : Item) (is : List Item) (t : List ℕ) (h : Goods X i is)
    (e : drop o s ≡ 91 ∷ items i is t) where
  pub array_long : length is < length s
  array_long = omega (arith, length-drop o s, ap length e, items-long i is t)

  -- the elements of the array at o
  pub array-read : map (bytes s) (elements s o) ≡ values (i ∷ is)
  array-read = ap (map (bytes s)) (elements-at X sized s o i is t h e) ∙ elements-read X sized (length s) s (o + 1) i is t h array_long (at_next 91 _ s o e)

  -- their places, and their ends
  pub array-starts : elements s o ≡ starts_at (o + 1) i is
  array-starts = elements-at X sized s o i is t h e ∙ starts-read X sized (length s) s (o + 1) i is t h array_long (at_next 91 _ s o e)

  pub array-stops : map (behind s) (elements s o) ≡ stops_at (o + 1) i is
  array-stops = ap (map (behind s)) (elements-at X sized s o i is t h e) ∙ ends_read X sized (length s) s (o + 1) i is t h array_long (at_next 91 _ s o e)

module _ (X : List ℕ → List ℕ → Type 0) (N : List ℕ → Type 0) (sized : (v t : List ℕ) → X v t → Sized v t) (label : (n : List ℕ) → N n → Label n) (s : List ℕ) (o : ℕ) (f : Field)
    (fs : List Field) (t : List ℕ) (h : Fines X N f fs) (e : drop o s ≡ 123 ∷ body f fs t) where
  pub object-long : length fs < length s
  object-long = omega (arith, length-drop o s, ap length e, body-long f fs t)

  -- the members of the object at o
  pub object-read : map (spell s) (members s o) ≡ read_all (f ∷ fs)
  unfolding members
  object-read = members-read X N sized label (length s) s (o + 1) f fs t h object-long (at_next 123 _ s o e)

-- and of an empty one
pub array-none : (s w t : List ℕ) (o : ℕ) → Blank w → drop o s ≡ 91 ∷ (w ++ (93 ∷ t)) → elements s o ≡ []
unfolding elements
array-none s w t o h e = let g = at_byte 93 t s (past s (o + 1)) (past-at s w (93 ∷ t) (o + 1) h ws_93 (at_next 91 _ s o e)) in rw g

pub members-none : (n : ℕ) (s : List ℕ) (a : ℕ) → get_or s (past s a) 0 ≡ 125 → members_from n s a ≡ []
unfolding members_from member_at
members-none zero s a e = refl
members-none (suc n) s a e = rw e

pub object-none : (s w t : List ℕ) (o : ℕ) → Blank w → drop o s ≡ 123 ∷ (w ++ (125 ∷ t)) → members s o ≡ []
unfolding members
object-none s w t o h e = members-none (length s) s (o + 1) (at_byte 125 t s (past s (o + 1)) (past-at s w (125 ∷ t) (o + 1) h ws_125 (at_next 123 _ s o e)))
