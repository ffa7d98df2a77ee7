-- Demand 3 for any table and any rule of one call: two neighbouring events that do not name the same call may change places. Tables that hold
-- the same calls answer alike and go on to hold the same calls; and the two orders lead to such tables. Assumes nothing.
use Rattle.std.specs.Prelude.{Option, Some, None}
use Prim.Native.Nat.{ℕ, suc, ◌+◌}
use Rattle.lifting.proofs.Steps as steps
use Rattle.lifting.proofs.Steps.{bool_clash}
use Rattle.lifting.specs.inner.First.{bit}
use Rattle.lifting.specs.inner.Keeper as keeper
use Rattle.lifting.specs.inner.Keeper.{Keeper}
use mathlib.Core.Bool.{Bool, true}
use mathlib.Core.List.{List, [], ◌∷◌}
use mathlib.Core.Path.{◌≡◌, refl, sym, ap, ◌∙◌}
use native.Mathlib.Omega.{arith}

module _ (K : Keeper) (L : keeper.Laws K) where
  open K use {Tab, Rec, Id, Ev, Ans, names, mute, rule, admits, turned, blank}
  open L use {same_id, admits-alike}

  abbrev look : Id → Tab → Option Rec
  look = keeper.look K

  abbrev tally : (Rec → Bool) → Tab → ℕ
  tally = keeper.tally K

  abbrev next : Tab → Ev → Tab
  next = keeper.next K

  abbrev answer : Tab → Ev → Ans
  answer = keeper.answer K

  abbrev held : Option Rec → Rec
  held = steps.held K L

  step : (t : Tab) (e : Ev) → keeper.Good K t → steps.Stepped K L t e
  step = steps.step K L

  one-is : {i j : Id} {m : Option Id} → m ≡ Some i → m ≡ Some j → i ≡ j
  one-is p q = cc

  none-some : {A : Type 0} {i : Id} {m : Option Id} → m ≡ None → m ≡ Some i → A
  none-some p q = absurd (let z : ◌≡◌ {A = ℕ} 0 1 = cc in omega arith)

  -- an event has one answer on tables that hold the same calls, and they hold the same calls after it
  module _ (t u : Tab) (e : Ev) (gt : keeper.Good K t) (gu : keeper.Good K u) (s : keeper.Alike K t u) where
    -- one that is turned away on one of them is turned away on the other
    away_too : keeper.Away K t e → (i : Id) → names e ≡ Some i → ((x : Rec) → look i u ≡ None → (rule e None).1 ≡ Some x → admits u e ≡ true) → ⊥
    away_too w i by taken =
        let c : w.call ≡ i = one-is w.by_name by in
        let q : look i u ≡ None = sym (s.looks i) ∙ (rw c at w.unheld) in
        bool_clash (admits-alike t u e gt gu s ∙ taken w.opened q w.opens) w.full

  same_step : (t u : Tab) (e : Ev) → keeper.Good K t → keeper.Good K u → keeper.Alike K t u → (answer t e ≡ answer u e) × keeper.Alike K (next t e) (next u e)
  same_step t u e gt gu s = go (step t e gt).outcome (step u e gu).outcome
    where
      back : keeper.Alike K u t
      back = record { looks = λ i. sym (s.looks i); tallies = λ p. sym (s.tallies p) }

      looks-after : (i j : Id) → names e ≡ Some j → look j (next t e) ≡ (rule e (look j t)).1 → look j (next u e) ≡ (rule e (look j u)).1
          → Dec (i ≡ j) → look i (next t e) ≡ look i (next u e)
      looks-after i j by p q (yes w) = rw w (p ∙ ap (λ (m : Option Rec). (rule e m).1) (s.looks j) ∙ sym q)
      looks-after i j by p q (no ne) =
          (step t e gt).other i (λ v. ne (one-is v by)) ∙ s.looks i ∙ sym ((step u e gu).other i (λ v. ne (one-is v by)))

      go : steps.Outcome K L t e → steps.Outcome K L u e → (answer t e ≡ answer u e) × keeper.Alike K (next t e) (next u e)
      go (steps.silent n a w) (steps.silent n' a' w') = (a ∙ sym a', rw (w, w') s)
      go (steps.silent n a w) (steps.away v' a' w') = none-some n v'.by_name
      go (steps.silent n a w) (steps.done j by a' o' f' t') = none-some n by
      go (steps.away v a w) (steps.silent n' a' w') = none-some n' v.by_name
      go (steps.away v a w) (steps.away v' a' w') = (a ∙ sym a', rw (w, w') s)
      go (steps.away v a w) (steps.done j by a' o' f' t') = absurd (away_too t u e gt gu s v j by t')
      go (steps.done i by a o f r) (steps.silent n' a' w') = none-some n' by
      go (steps.done i by a o f r) (steps.away v' a' w') = absurd (away_too u t e gu gt back v' i by r)
      go (steps.done i by a o f r) (steps.done j by' a' o' f' r') =
          let c : j ≡ i = one-is by' by in
          let a'' : answer u e ≡ (rule e (look i u)).0 = rw c at a' in
          let o'' : look i (next u e) ≡ (rule e (look i u)).1 = rw c at o' in (
            a ∙ ap (λ (m : Option Rec). (rule e m).0) (s.looks i) ∙ sym a'',
            record {
              looks = λ k. looks-after k i by o o'' (same_id k i);
              tallies = λ p.
                  let f'' : tally p (next u e) + bit (p (held (look i u))) ≡ tally p u + bit (p (held (rule e (look i u)).1)) = rw c at (f' p) in
                  omega (
                    arith,
                    f p,
                    f'',
                    s.tallies p,
                    ap (λ (m : Option Rec). bit (p (held m))) (s.looks i),
                    ap (λ (m : Option Rec). bit (p (held (rule e m).1))) (s.looks i),
                  );
            },
          )

  -- an event that names a call and is not turned away
  record Done (t : Tab) (e : Ev) (i : Id) : Type 0 where
    ans : answer t e ≡ (rule e (look i t)).0
    own-after : look i (next t e) ≡ (rule e (look i t)).1
    count-after : (p : Rec → Bool) → tally p (next t e) + bit (p (held (look i t))) ≡ tally p t + bit (p (held (rule e (look i t)).1))

  is-done : (t : Tab) (e : Ev) (i : Id) → names e ≡ Some i → keeper.Good K t → (keeper.Away K t e → ⊥) → Done t e i
  is-done t e i by g nf = go (step t e g).outcome
    where
      go : steps.Outcome K L t e → Done t e i
      go (steps.silent n a w) = none-some n by
      go (steps.away v a w) = absurd (nf v)
      go (steps.done j by' a o f r) = let d : Done t e j = record { ans = a; own-after = o; count-after = f } in rw (one-is by' by) at d

  -- what an event that names nobody does
  record Mute (t : Tab) (e : Ev) : Type 0 where
    ans : answer t e ≡ mute e
    stays : next t e ≡ t

  is-mute : (t : Tab) (e : Ev) → names e ≡ None → Mute t e
  unfolding keeper.answer keeper.next
  is-mute t e n = record { ans = rw n; stays = rw n }

  -- the two orders of two neighbours
  record Swapped (t : Tab) (a b : Ev) : Type 0 where
    to-a : answer t a ≡ answer (next t b) a
    to-b : answer (next t a) b ≡ answer t b
    alike : keeper.Alike K (next (next t a) b) (next (next t b) a)

  itself : (t : Tab) → keeper.Alike K t t
  itself t = record { looks = λ i. refl; tallies = λ p. refl }

  module _ (t : Tab) (g : keeper.Good K t) (a b : Ev) (roomy : keeper.Roomy K t a b) (i j : Id) (by-a : names a ≡ Some i) (by-b : names b ≡ Some j) (ne : i ≡ j → ⊥) where
    ga : keeper.Good K (next t a)
    ga = (step t a g).good

    gb : keeper.Good K (next t b)
    gb = (step t b g).good

    da : Done t a i
    da = is-done t a i by-a g roomy.first-a

    db : Done t b j
    db = is-done t b j by-b g roomy.first-b

    dab : Done (next t a) b j
    dab = is-done (next t a) b j by-b ga roomy.then-b

    dba : Done (next t b) a i
    dba = is-done (next t b) a i by-a gb roomy.then-a

    lb : look j (next t a) ≡ look j t
    lb = (step t a g).other j (λ w. ne (one-is by-a w))

    la : look i (next t b) ≡ look i t
    la = (step t b g).other i (λ w. ne (one-is w by-b))

    both-named : Swapped t a b
    both-named =
        record {
          to-a = da.ans ∙ ap (λ (m : Option Rec). (rule a m).0) (sym la) ∙ sym dba.ans;
          to-b = dab.ans ∙ ap (λ (m : Option Rec). (rule b m).0) lb ∙ sym db.ans;
          alike = record {
            looks = λ k. go k (same_id k i) (same_id k j);
            tallies = λ p.
                omega (
                  arith,
                  da.count-after p,
                  db.count-after p,
                  dab.count-after p,
                  dba.count-after p,
                  ap (λ (m : Option Rec). bit (p (held m))) la,
                  ap (λ (m : Option Rec). bit (p (held m))) lb,
                  ap (λ (m : Option Rec). bit (p (held (rule a m).1))) la,
                  ap (λ (m : Option Rec). bit (p (held (rule b m).1))) lb,
                );
          };
        }
      where
        go : (k : Id) → Dec (k ≡ i) → Dec (k ≡ j) → look k (next (next t a) b) ≡ look k (next (next t b) a)
        go k (yes w) (yes v) = absurd (ne (sym w ∙ v))
        go k (yes w) (no v) =
            rw w ((step (next t a) b ga).other i (λ u. ne (one-is u by-b)) ∙ da.own-after ∙ ap (λ (m : Option Rec). (rule a m).1) (sym la) ∙ sym dba.own-after)
        go k (no w) (yes v) =
            rw v (dab.own-after ∙ ap (λ (m : Option Rec). (rule b m).1) lb ∙ sym db.own-after
            ∙ sym ((step (next t b) a gb).other j (λ u. ne (one-is by-a u))))
        go k (no w) (no v) =
            (step (next t a) b ga).other k (λ u. v (one-is u by-b)) ∙ (step t a g).other k (λ u. w (one-is u by-a))
            ∙ sym ((step t b g).other k (λ u. v (one-is u by-b))) ∙ sym ((step (next t b) a gb).other k (λ u. w (one-is u by-a)))

  swapped : (t : Tab) (a b : Ev) → keeper.Good K t → keeper.Apart K a b → keeper.Roomy K t a b → Swapped t a b
  swapped t a b g apart roomy = by (names a) (names b) refl refl
    where
      by : (m n : Option Id) → names a ≡ m → names b ≡ n → Swapped t a b
      by None n wa wb =
          let m = is-mute t a wa in
          let m' = is-mute (next t b) a wa in
          record { to-a = m.ans ∙ sym m'.ans; to-b = ap (λ (v : Tab). answer v b) m.stays; alike = rw (m.stays, m'.stays) (itself (next t b)) }
      by (Some i) None wa wb =
          let m = is-mute t b wb in
          let m' = is-mute (next t a) b wb in
          record { to-a = ap (λ (v : Tab). answer v a) (sym m.stays); to-b = m'.ans ∙ sym m.ans; alike = rw (m.stays, m'.stays) (itself (next t a)) }
      by (Some i) (Some j) wa wb = both-named t g a b roomy i j wa wb (λ e. apart i wa (wb ∙ ap Some (sym e)))

  same-run : (es : List Ev) (t u : Tab) → keeper.Good K t → keeper.Good K u → keeper.Alike K t u
      → (keeper.answers K t es ≡ keeper.answers K u es) × keeper.Alike K (keeper.after_all K t es) (keeper.after_all K u es)
  unfolding keeper.answers keeper.after_all
  same-run [] t u gt gu s = (refl, s)
  same-run (e ∷ es) t u gt gu s =
      let p : (answer t e ≡ answer u e) × keeper.Alike K (next t e) (next u e) = same_step t u e gt gu s in
      let q : (keeper.answers K (next t e) es ≡ keeper.answers K (next u e) es) × keeper.Alike K (keeper.after_all K (next t e) es) (keeper.after_all K (next u e) es) =
      same-run es (next t e) (next u e) (step t e gt).good (step u e gu).good p.1 in
      (rw (p.0, q.0), q.1)

  -- THE THEOREM: exchanging two neighbours that do not name the same call, neither of which is turned away in either order, alters no
  -- answer of the whole sequence and no call's final record
  pub exchange : (t : Tab) (xs : List Ev) (a b : Ev) (ys : List Ev) → keeper.Good K t → keeper.Apart K a b
      → keeper.Roomy K (keeper.after_all K t xs) a b → keeper.Exchanged K t xs a b ys
  unfolding keeper.answers keeper.after_all
  exchange t [] a b ys g apart r =
      let w = swapped t a b g apart r in
      let s = same-run ys (next (next t a) b) (next (next t b) a) (step (next t a) b (step t a g).good).good (step (next t b) a (step t b g).good).good w.alike in
      record {
        before = [];
        to-a = answer t a;
        to-b = answer (next t a) b;
        behind = keeper.answers K (next (next t a) b) ys;
        answers_ab = refl;
        answers_ba = rw (w.to-a, w.to-b, s.0);
        as_many = refl;
        records = s.1.looks;
      }
  exchange t (x ∷ xs) a b ys g apart r =
      let h : keeper.Exchanged K (next t x) xs a b ys = exchange (next t x) xs a b ys (step t x g).good apart r in
      record {
        before = answer t x ∷ h.before;
        to-a = h.to-a;
        to-b = h.to-b;
        behind = h.behind;
        answers_ab = rw h.answers_ab;
        answers_ba = rw h.answers_ba;
        as_many = ap suc h.as_many;
        records = h.records;
      }
