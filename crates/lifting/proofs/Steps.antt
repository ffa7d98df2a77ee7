-- What one event does to a well-formed table: it stays well-formed, every other call's record stays as it was and where it was, and the call
-- that is named gets the rule's record, unless it is new and turned away. Assumes nothing.
use Rattle.std.specs.Prelude.{Option, Some, None}
use Prim.Native.Nat.{ℕ, ◌+◌, ◌≤◌, ◌<◌}
use Rattle.lifting.proofs.FirstLaws.{first-before, first-hit, count_but}
use Rattle.lifting.specs.inner.First.{count, bit}
use Rattle.lifting.specs.inner.Keeper as keeper
use Rattle.lifting.specs.inner.Keeper.{Keeper}
use borrow.Author.Tests.{ltb-true, ltb-false}
use lib.Dec.{ltb}
use mathlib.Core.Bool.{Bool, true, false, true≢false}
use mathlib.Core.Path.{◌≡◌, refl, sym, ap, ◌∙◌}
use native.Mathlib.Decide.{ℕ_discrete}
use native.Mathlib.Omega.{arith}

pub bool_clash : {A : Type 0} {b : Bool} → b ≡ true → b ≡ false → A
bool_clash p q = absurd (true≢false (sym p ∙ q))

module _ (K : Keeper) (L : keeper.Laws K) where
  open K use {Tab, Rec, Id, Ev, Ans, size, at, put, free, named, blank, names, mute, rule, admits, turned, Fit, Frame}
  open L use {same_id, put-frame, size-put, put_same, put_other, blank-fit, blank-free, free-blank, free_nameless, one_name, new-own, keep-own, admits-room}

  abbrev is_at : Id → Tab → ℕ → Bool
  is_at = keeper.is_at K

  abbrev look : Id → Tab → Option Rec
  look = keeper.look K

  abbrev tally : (Rec → Bool) → Tab → ℕ
  tally = keeper.tally K

  -- where a call's record stands
  data Where (i : Id) (t : Tab) : Type 0 where
    found : (k : ℕ) → k < size t → is_at i t k ≡ true → keeper.place K i t ≡ k → look i t ≡ Some (at t k) → Where i t
    absent : ((k : ℕ) → k < size t → is_at i t k ≡ false) → look i t ≡ None → Where i t

  where_is : (i : Id) (t : Tab) → Where i t
  where_is i t = go (ltb (keeper.place K i t) (size t)) refl
    where
      go : (b : Bool) → ltb (keeper.place K i t) (size t) ≡ b → Where i t
      go true e =
          found (keeper.place K i t) (ltb-true _ _ e) (first-hit (is_at i t) (size t) (ltb-true _ _ e)) refl (rw e)
      go false e =
          absent (λ k h. first-before (is_at i t) (size t) k (let l : size t ≤ keeper.place K i t = ltb-false _ _ e in omega arith)) (rw e)

  look-found : (i : Id) (t : Tab) (k : ℕ) → keeper.Good K t → k < size t → is_at i t k ≡ true → look i t ≡ Some (at t k)
  look-found i t k g h e = go (where_is i t)
    where
      go : Where i t → look i t ≡ Some (at t k)
      go (found l h' e' p q) = rw (g.one i k l h h' e e') q
      go (absent n q) = bool_clash e (n k h)

  look-absent : (i : Id) (t : Tab) → ((k : ℕ) → k < size t → is_at i t k ≡ false) → look i t ≡ None
  look-absent i t f = go (where_is i t)
    where
      go : Where i t → look i t ≡ None
      go (found l h' e' p q) = bool_clash e' (f l h')
      go (absent n q) = q

  other_name : (i j : Id) (r : Rec) → (i ≡ j → ⊥) → named j r ≡ true → named i r ≡ false
  other_name i j r ne n = go (named i r) refl
    where
      go : (b : Bool) → named i r ≡ b → named i r ≡ false
      go true e = absurd (ne (one_name i j r e n))
      go false e = e

  -- a record that a place holds: the call's, or the blank one
  abbrev pub held : Option Rec → Rec
  held (Some r) = r
  held None = blank

  -- what a place may hold: a record of the call j, or the blank one
  data Holds (j : Id) (y : Rec) : Option Rec → Type 0 where
    own : named j y ≡ true → Holds j y (Some y)
    clear : y ≡ blank → Holds j y None

  holds-other : (i j : Id) (y : Rec) {m : Option Rec} → (i ≡ j → ⊥) → Holds j y m → named i y ≡ false
  holds-other i j y ne (own n) = other_name i j y ne n
  holds-other i j y ne (clear f) = free_nameless i y (ap free f ∙ blank-free)

  holds-is : (j : Id) (y : Rec) {m : Option Rec} → Holds j y m → y ≡ held m
  holds-is j y (own n) = refl
  holds-is j y (clear f) = f

  module _ (t : Tab) (g : keeper.Good K t) (j : Id) (k : ℕ) (h : k < size t) (y : Rec) (fit : Fit y) (m : Option Rec)
      (was : Option Rec) (before : Holds j (at t k) was) (after : Holds j y m)
      (alone : (l : ℕ) → l < size t → (l ≡ k → ⊥) → is_at j t l ≡ false) where
    at-k : (i : Id) → is_at i (put t k y) k ≡ named i y
    at-k i = ap (named i) (put_same t k y g.frame h fit)

    at_l : (i : Id) (l : ℕ) → l < size t → (l ≡ k → ⊥) → is_at i (put t k y) l ≡ is_at i t l
    at_l i l hl ne = ap (named i) (put_other t k l y g.frame h hl ne fit)

    -- a call named at k after the store is j
    only-j : (i : Id) → named i y ≡ true → i ≡ j
    only-j i n = go (same_id i j)
      where
        go : Dec (i ≡ j) → i ≡ j
        go (yes e) = e
        go (no ne) = bool_clash n (holds-other i j y ne after)

    no_other : (i : Id) (l : ℕ) → l < size t → (l ≡ k → ⊥) → named i y ≡ true → is_at i t l ≡ false
    no_other i l hl ne n = rw (only-j i n) (alone l hl ne)

    put-good : keeper.Good K (put t k y)
    put-good =
        record {
          frame = put-frame t k y g.frame h fit;
          fit = λ l hl. each l (rw (size-put t k y g.frame h fit) at hl) (ℕ_discrete l k);
          one = λ i a b ha hb pa pb. go i a b (rw (size-put t k y g.frame h fit) at ha) (rw (size-put t k y g.frame h fit) at hb) pa pb (ℕ_discrete a k) (ℕ_discrete b k);
        }
      where
        each : (l : ℕ) → l < size t → Dec (l ≡ k) → Fit (at (put t k y) l)
        each l hl (yes e) = rw (e, put_same t k y g.frame h fit) fit
        each l hl (no nk) = rw (put_other t k l y g.frame h hl nk fit) (g.fit l hl)

        go : (i : Id) (a b : ℕ) → a < size t → b < size t → is_at i (put t k y) a ≡ true → is_at i (put t k y) b ≡ true
            → Dec (a ≡ k) → Dec (b ≡ k) → a ≡ b
        go i a b ha hb pa pb (yes ea) (yes eb) = ea ∙ sym eb
        go i a b ha hb pa pb (yes ea) (no nb) =
            bool_clash (sym (at_l i b hb nb) ∙ pb) (no_other i b hb nb (sym (at-k i) ∙ (rw ea at pa)))
        go i a b ha hb pa pb (no na) (yes eb) =
            bool_clash (sym (at_l i a ha na) ∙ pa) (no_other i a ha na (sym (at-k i) ∙ (rw eb at pb)))
        go i a b ha hb pa pb (no na) (no nb) = g.one i a b ha hb (sym (at_l i a ha na) ∙ pa) (sym (at_l i b hb nb) ∙ pb)

    put-look-other : (i : Id) → (i ≡ j → ⊥) → look i (put t k y) ≡ look i t
    put-look-other i ne = go (where_is i t)
      where
        not-k : (l : ℕ) → is_at i t l ≡ true → l ≡ k → ⊥
        not-k l e w = bool_clash e (rw w (holds-other i j (at t k) ne before))

        go : Where i t → look i (put t k y) ≡ look i t
        go (found l hl e p q) =
            look-found i (put t k y) l put-good (rw (size-put t k y g.frame h fit) hl) (at_l i l hl (not-k l e) ∙ e)
            ∙ ap Some (put_other t k l y g.frame h hl (not-k l e) fit) ∙ sym q
        go (absent n q) = look-absent i (put t k y) (λ l hl. none-at l (rw (size-put t k y g.frame h fit) at hl) (ℕ_discrete l k)) ∙ sym q
          where
            none-at : (l : ℕ) → l < size t → Dec (l ≡ k) → is_at i (put t k y) l ≡ false
            none-at l hl (yes e) = rw e (at-k i ∙ holds-other i j y ne after)
            none-at l hl (no nk) = at_l i l hl nk ∙ n l hl

    put-look-own : look j (put t k y) ≡ m
    put-look-own = go m after
      where
        none-at : y ≡ blank → (l : ℕ) → l < size t → Dec (l ≡ k) → is_at j (put t k y) l ≡ false
        none-at f l hl (yes e) = rw e (at-k j ∙ free_nameless j y (ap free f ∙ blank-free))
        none-at f l hl (no nk) = at_l j l hl nk ∙ alone l hl nk

        go : (m : Option Rec) → Holds j y m → look j (put t k y) ≡ m
        go m (own n) = look-found j (put t k y) k put-good (rw (size-put t k y g.frame h fit) h) (at-k j ∙ n) ∙ ap Some (put_same t k y g.frame h fit)
        go m (clear f) = look-absent j (put t k y) (λ l hl. none-at f l (rw (size-put t k y g.frame h fit) at hl) (ℕ_discrete l k))

    put-tally : (p : Rec → Bool) → tally p (put t k y) + bit (p (held was)) ≡ tally p t + bit (p (held m))
    put-tally p =
        let e : tally p (put t k y) ≡ count (λ l. p (at (put t k y) l)) (size t) = rw (size-put t k y g.frame h fit) in
        let d : count (λ l. p (at (put t k y) l)) (size t) + bit (p (at t k)) ≡ tally p t + bit (p (at (put t k y) k)) =
        count_but (λ l. p (at (put t k y) l)) (λ l. p (at t l)) (size t) k h (λ l hl ne. ap p (put_other t k l y g.frame h hl ne fit)) in
        let f : bit (p (at (put t k y) k)) ≡ bit (p (held m)) = ap (λ (r : Rec). bit (p r)) (put_same t k y g.frame h fit ∙ holds-is j y after) in
        let b : bit (p (at t k)) ≡ bit (p (held was)) = ap (λ (r : Rec). bit (p r)) (holds-is j (at t k) before) in
        omega (arith, e, d, f, b)

  -- what an event does, in the table's own words: it names nobody; it is turned away; or it gets the rule's answer and record
  pub data Outcome (t : Tab) (e : Ev) : Type 0 where
    silent : names e ≡ None → keeper.answer K t e ≡ mute e → keeper.next K t e ≡ t → Outcome t e
    away : keeper.Away K t e → keeper.answer K t e ≡ turned e → keeper.next K t e ≡ t → Outcome t e
    done : (i : Id) → names e ≡ Some i → keeper.answer K t e ≡ (rule e (look i t)).0 → look i (keeper.next K t e) ≡ (rule e (look i t)).1
        → ((p : Rec → Bool) → tally p (keeper.next K t e) + bit (p (held (look i t))) ≡ tally p t + bit (p (held (rule e (look i t)).1)))
        → ((x : Rec) → look i t ≡ None → (rule e None).1 ≡ Some x → admits t e ≡ true) → Outcome t e

  pub record Stepped (t : Tab) (e : Ev) : Type 0 where
    pub good : keeper.Good K (keeper.next K t e)
    pub other : (i : Id) → (names e ≡ Some i → ⊥) → look i (keeper.next K t e) ≡ look i t
    -- a record that is another call's is not altered, and stays at its place
    pub bytes : (k : ℕ) → k < size t → (i : Id) → (names e ≡ Some i → ⊥) → is_at i t k ≡ true → at (keeper.next K t e) k ≡ at t k
    pub size-kept : size (keeper.next K t e) ≡ size t
    pub outcome : Outcome t e

  some_is : (i j : Id) → ◌≡◌ {A = Option Id} (Some i) (Some j) → i ≡ j
  some_is i j e = cc

  -- a store at k, as an event
  stored : (t : Tab) (e : Ev) (j : Id) → names e ≡ Some j → keeper.Good K t → (k : ℕ) → k < size t → (y : Rec) → Fit y → (was m : Option Rec)
      → Holds j (at t k) was → look j t ≡ was → Holds j y m
      → ((l : ℕ) → l < size t → (l ≡ k → ⊥) → is_at j t l ≡ false)
      → keeper.next K t e ≡ put t k y → keeper.answer K t e ≡ (rule e (look j t)).0 → (rule e (look j t)).1 ≡ m
      → ((x : Rec) → look j t ≡ None → (rule e None).1 ≡ Some x → admits t e ≡ true) → Stepped t e
  stored t e j by g k h y fit was m before isWas after alone is_next isAns isDue taken =
      record {
        good = rw is_next (put-good t g j k h y fit m was before after alone);
        other = λ i ne. rw is_next (put-look-other t g j k h y fit m was before after alone i (λ w. ne (by ∙ ap Some (sym w))));
        bytes = λ l hl i ne n. rw is_next (put_other t k l y g.frame h hl (λ w. bool_clash n (rw w (holds-other i j (at t k) (λ v. ne (by ∙ ap Some (sym v))) before))) fit);
        size-kept = rw is_next (size-put t k y g.frame h fit);
        outcome =
            done j by isAns (rw (is_next, isDue) (put-look-own t g j k h y fit m was before after alone))
            (λ p. rw (is_next, isDue, isWas) (put-tally t g j k h y fit m was before after alone p)) taken;
      }

  -- the table is left as it is
  left : (t : Tab) (e : Ev) → keeper.Good K t → keeper.next K t e ≡ t → Outcome t e → Stepped t e
  left t e g is_next o =
      record { good = rw is_next g; other = λ i ne. rw is_next; bytes = λ k h i ne n. rw is_next; size-kept = rw is_next; outcome = o }

  named_step : (t : Tab) (e : Ev) (j : Id) → names e ≡ Some j → keeper.Good K t → Stepped t e
  unfolding keeper.answer keeper.next keeper.answer_to keeper.next_to
  named_step t e j by g = go (where_is j t)
    where
      alone : (k : ℕ) → k < size t → is_at j t k ≡ true → (l : ℕ) → l < size t → (l ≡ k → ⊥) → is_at j t l ≡ false
      alone k h n l hl ne = which (is_at j t l) refl
        where
          which : (b : Bool) → is_at j t l ≡ b → is_at j t l ≡ false
          which true w = absurd (ne (g.one j l k hl h w n))
          which false w = w

      never : (k : ℕ) → look j t ≡ Some (at t k) → (x : Rec) → look j t ≡ None → (rule e None).1 ≡ Some x → admits t e ≡ true
      never k q x z r = absurd (let w : ◌≡◌ {A = ℕ} 0 1 = (let v : Some (at t k) ≡ None = sym q ∙ z in cc) in omega arith)

      go-found : (k : ℕ) → k < size t → is_at j t k ≡ true → keeper.place K j t ≡ k → look j t ≡ Some (at t k)
          → (m : Option Rec) → (rule e (Some (at t k))).1 ≡ m → Stepped t e
      go-found k h n p q None r =
          stored t e j by g k h blank blank-fit (Some (at t k)) None (own n) q (clear refl) (alone k h n) (rw (by, q, p, r)) (rw (by, q)) (rw (q, r)) (never k q)
      go-found k h n p q (Some x) r =
          stored t e j by g k h x (keep-own e j (at t k) x by (g.fit k h) n r).0 (Some (at t k)) (Some x) (own n) q
          (own (keep-own e j (at t k) x by (g.fit k h) n r).1) (alone k h n) (rw (by, q, p, r)) (rw (by, q)) (rw (q, r)) (never k q)

      go-new : ((k : ℕ) → k < size t → is_at j t k ≡ false) → look j t ≡ None
          → (m : Option Rec) → (rule e None).1 ≡ m → (b : Bool) → admits t e ≡ b → Stepped t e
      go-new n q None r b v =
          left t e g (rw (by, q, r))
          (done j by (rw (by, q, r)) (rw (by, q, r) q) (λ p. rw (by, q, r) refl)
          (λ x z w. absurd (let y : ◌≡◌ {A = ℕ} 0 1 = (let u : None ≡ Some x = sym r ∙ w in cc) in omega arith)))
      go-new n q (Some x) r false v =
          left t e g (rw (by, q, r, v)) (away (record { call = j; by_name = by; unheld = q; opened = x; opens = r; full = v }) (rw (by, q, r, v)) (rw (by, q, r, v)))
      go-new n q (Some x) r true v =
          let h = admits-room t e v in
          let f = first-hit (λ k. free (at t k)) (size t) h in
          stored t e j by g (keeper.hole K t) h x (new-own e j x by r).0 None (Some x)
          (clear (free-blank (at t (keeper.hole K t)) (g.fit (keeper.hole K t) h) f)) q (own (new-own e j x by r).1) (λ l hl ne. n l hl)
          (rw (by, q, r, v)) (rw (by, q, r, v)) (rw (q, r)) (λ y z w. v)

      go : Where j t → Stepped t e
      go (found k h n p q) = go-found k h n p q (rule e (Some (at t k))).1 refl
      go (absent n q) = go-new n q (rule e None).1 refl (admits t e) refl

  -- every event leaves a well-formed table well-formed
  pub step : (t : Tab) (e : Ev) → keeper.Good K t → Stepped t e
  unfolding keeper.answer keeper.next
  step t e g = by (names e) refl
    where
      by : (m : Option Id) → names e ≡ m → Stepped t e
      by None w = left t e g (rw w) (silent w (rw w) (rw w))
      by (Some j) w = named_step t e j w g
