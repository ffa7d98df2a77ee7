-- One walk over a text of the usual shape: its beginning, one turn for each member, its end. The machine's answer is carried along from place to
-- place, and beside it what is gathered so far; where the walk breaks off, the text has not the usual shape. Assumes nothing.
use Rattle.octets.proofs.TextLaws.{there}
use Rattle.json_text.proofs.TurnLaws.{no_more, one_more, comma, no-comma}
use Rattle.octets.proofs.TestLaws.{and_parts, clash}
use Rattle.message.specs.inner.Shaping.{Shaped}
use Rattle.fields.specs.inner.Gathering.{ends_of, Ended}
use Prim.Native.Nat.{ℕ, suc, ◌+◌, ◌-◌, ◌≤◌, ◌<◌}
use Rattle.json_text.proofs.AroundLaws.{tour-around, one-ends, lone-ends}
use Rattle.json_text.proofs.Complete.{first-not, ws-not}
use Rattle.json_text.proofs.EndLaws.{ends_open}
use Rattle.json_text.proofs.MoveLaws.{whole, trail}
use Rattle.json_text.proofs.PassLaws.{stuck-on, dead_end, arr-end, obj-end, PassedString, string-passed, string-stuck, PassedMember}
use Rattle.json_text.proofs.ReadLaws.{tour-room}
use Rattle.json_text.proofs.PlaceLaws.{closing-is, raw-is, past-low, past-inner}
use Rattle.json_text.proofs.SpaceLaws.{past-tour, past-ink}
use Rattle.json_text.proofs.StepLaws.{not-ws, ws-value, ws-first, ws-name, ws-name₁, ws-text, ws-arr, value-arr, value-obj, first-value, arr-comma, arr_close, arr-miss, name-miss}
use Rattle.json_text.proofs.StepLaws.{name₁-name}
use Rattle.json_text.proofs.StepLaws.{obj-comma, obj_close}
use Rattle.json_text.proofs.TourLaws.{tour-is, tour-moves, tour-alike, first_alike, opens-some, places_halt, alone-stops}
use Rattle.json_text.specs.inner.Machine.{alone, text, arr, obj, value, first, name, name₁, after, live, one}
use Rattle.json_text.specs.inner.Passing.{is_end, passed}
use Rattle.json_text.specs.inner.Tour.{lone, resume, total, tour, visited}
use Rattle.json_text.specs.Places.{past, behind, part, value_of, follows, more, members, members_from, is_ws}
use Rattle.json_text.specs.inner.Tour.{Toured, room_in}
use Rattle.fields.proofs.GatherLaws.{Sofar, started, over, repeats, goes_on, has-is, note-is, number_is, no-ends, note-ends, ends-known}
use Rattle.message.proofs.ShapeLaws.{no-array, no-tag, one-alone, no-object, three, a_pair, tag-few}
use Rattle.fields.specs.Known.{empty, noted, repeated}
use Rattle.message.specs.Reading.{judged, known, shaped, on_json}
use Rattle.message.specs.Shape.{tag_of, object_of}
use Rattle.message.specs.Refusal.{Reading}
use Rattle.message.specs.declared.reading.Report.{Report}
use Rattle.message.specs.inner.Walk.{is_once, is_usual, field_places, is_listed, Begun, Listed, Usual}
use Rattle.rules.specs.Names.{fields, tags}
use Rattle.values.specs.Value.{word_spelled, number_at}
use borrow.Author.Tests.{ne_eqb, lt-ltb, lt-leb, le-leb, eqb-true, ltb-true}
use lib.Dec.{eqb, leb, ltb}
use lib.ListN.{length, get_or, set}
use mathlib.Core.Bool.{Bool, true, false, ◌&&◌, and-false, cond}
use mathlib.Core.List.{List, [], ◌∷◌}
use mathlib.Core.Logic.{◌⊎◌, inl, inr}
use mathlib.Core.Path.{◌≡◌, refl, subst, sym, ap, ◌∙◌}
use native.Mathlib.Decide.{dec_lt, ℕ_discrete}
use native.Mathlib.Omega.{arith}
use Rattle.std.specs.Prelude.{Ok, Err, Some, None}

-- The members of the object at o.

module _ (s : List ℕ) (o room : ℕ) where
  stuck : is_end (lone 7 (suc room) s o) ≡ false → is_listed s o room ≡ false
  unfolding is_listed
  stuck e = rw e refl

  not-once : is_once s (members s o) ≡ false → is_listed s o room ≡ false
  unfolding is_listed
  not-once e = rw e (and-false (is_end (lone 7 (suc room) s o)))

  -- there is no member
  pub none-listed : {q : ℕ} → q ≡ past s (o + 1) → (get_or s q 0 ≡ 34 → ⊥) → is_listed s o room ≡ false
  unfolding is_once members
  none-listed e ne = not-once (rw (no_more s (length s) (o + 1) e ne))

-- p is behind the brace or a comma, n members at most are to come, and there is room for so many values, of `room` inside the brace
pub record Walking (s : List ℕ) (o room : ℕ) (at end : List ℕ) (n p spare : ℕ) : Type 0 where
  pub some : 0 < length (members s o)
  pub sofar : Sofar fields s o at (members_from n s p)
  pub ends : end ≡ ends_of s at
  pub json : lone 7 (suc room) s o ≡ tour s (past s p) name (obj (alone 7)) spare
  pub turns : length s < n + p

pub walk-starts : (s : List ℕ) (o room : ℕ) {q : ℕ} → get_or s o 0 ≡ 123 → q ≡ past s (o + 1) → get_or s q 0 ≡ 34 → {n : ℕ} → length s ≡ n
    → Walking s o room empty empty n (o + 1) room
unfolding members
walk-starts s o room {q} brace e quote all =
    let h = there s q 33 quote in
    let b : get_or s (past s (o + 1)) 0 ≡ 34 = ap (λ (i : ℕ). get_or s i 0) (sym e) ∙ quote in
    record {
      some = rw (one_more s (length s) (o + 1) (omega arith) e quote) (omega arith);
      sofar = subst (λ (k : ℕ). Sofar fields s o empty (members_from k s (o + 1))) all (started fields s o);
      ends = no-ends s;
      json =
          opens-some s o (alone 7) (obj (alone 7)) name₁ (there s o 122 brace) (not-ws (get_or s o 0) (omega arith)) (value-obj (alone 7) (get_or s o 0) brace (omega arith)) room
          ∙ past-tour name₁ (obj (alone 7)) (ws-name₁ (obj (alone 7))) (λ b w. refl) s (o + 1) room
          ∙ tour-alike s (past s (o + 1)) name₁ name (obj (alone 7)) room (omega (arith, e)) refl
          (name₁-name (alone 7) (get_or s (past s (o + 1)) 0) (past-ink s (o + 1) (omega (arith, e))) (λ z. omega (arith, b, z)));
      turns = omega (arith, all);
    }

module _ {s : List ℕ} {o room : ℕ} {at end : List ℕ} {n p spare : ℕ} (f : Walking s o room at end n p spare) where
  -- no turn is spare: there are turns enough
  pub walk-spent : {A : Type 0} → n ≤ 0 → p ≤ length s → A
  walk-spent h g = absurd (omega (arith, f.turns))

  module _ {q : ℕ} (at-q : q ≡ past s p) where
    to-name : lone 7 (suc room) s o ≡ tour s q name (obj (alone 7)) spare
    to-name = f.json ∙ ap (λ (i : ℕ). tour s i name (obj (alone 7)) spare) (sym at-q)

    -- no name follows
    pub no_name : (get_or s q 0 ≡ 34 → ⊥) → p ≤ length s → is_listed s o room ≡ false
    no_name ne h =
        stuck s o room
        (ap is_end to-name
        ∙ obj-end s name (alone 7) spare q (omega (arith, at-q, past-inner s p h))
        (λ i. name-miss (obj (alone 7)) (get_or s q 0) (ap (λ (j : ℕ). is_ws (get_or s j 0)) at-q ∙ past-ink s p (omega (arith, at-q))) ne))

    -- the member does not pass
    pub no_member : is_end (tour s q name (obj (alone 7)) spare) ≡ false → is_listed s o room ≡ false
    no_member e = stuck s o room (ap is_end to-name ∙ e)

    module _ (more-turns : 0 < n) (late : 0 < p) (quote : get_or s q 0 ≡ 34) {e v w t spare' : ℕ} (m : PassedMember s q 6 spare e v w t spare')
        {x : List ℕ} {k : ℕ} (called : x ≡ part s (q + 1) (e - 1)) (numbered : k ≡ word_spelled fields x) {r : Bool} (seen : r ≡ (ltb 0 k && ltb 0 (get_or at k 0))) where
      number : k ≡ number_at fields s q
      number = number_is fields s q (called ∙ raw-is s q (closing-is s q m.row.named)) numbered

      next : members_from n s p ≡ q ∷ more s (members_from (n - 1) s) (value_of s q)
      next = one_more s n p more-turns at-q quote

      q-late : p ≤ q
      q-late = omega (arith, at-q, past-low s p)

      -- its name stands twice
      pub name-again : r ≡ true → is_listed s o room ≡ false
      unfolding is_once
      name-again h =
          let l = q-late in
          let g = repeats f.sofar q (more s (members_from (n - 1) s) (value_of s q)) next (λ z. omega arith) (sym (has-is fields s at q number seen) ∙ h) in
          not-once s o room (rw (← g.first, ne_eqb q 0 (λ z. omega arith)) (and-false (ltb 0 (length (members s o)))))

      -- neither a comma nor the brace follows: it would not have passed
      pub no_other : {A : Type 0} → (get_or s t 0 ≡ 125 → ⊥) → (get_or s t 0 ≡ 44 → ⊥) → A
      no_other g h = absurd (by m.follow)
        where
          by : (get_or s t 0 ≡ 44) ⊎ (get_or s t 0 ≡ 125) → ⊥
          by (inl z) = h z
          by (inr z) = g z

      module _ (new : r ≡ false) {at' end' : List ℕ} (put : at' ≡ cond (eqb k 0) at (set at k v)) (put-end : end' ≡ cond (eqb k 0) end (set end k w)) where
        next-ends : end' ≡ ends_of s at'
        next-ends =
            let l = q-late in
            rw (put, put-end) (note-ends s at k v (eqb k 0) f.ends (omega (arith, m.row.named.low, m.row.begins.low))
            (m.row.ends.is ∙ ap (behind s) (sym m.row.begins.is)))

        next-sofar : (rest : List ℕ) → more s (members_from (n - 1) s) (value_of s q) ≡ rest → Sofar fields s o at' rest
        next-sofar rest g =
            goes_on f.sofar q (more s (members_from (n - 1) s) (value_of s q)) next (sym (has-is fields s at q number seen) ∙ new)
            (note-is fields s at q number m.row.begins.is put) g

        next-json : lone 7 (suc room) s o ≡ tour s t after (obj (alone 7)) spare'
        next-json = to-name ∙ m.same (alone 7) refl

        -- a comma follows
        pub walk-again : get_or s t 0 ≡ 44 → {left : ℕ} → n - 1 ≡ left → Walking s o room at' end' left (t + 1) spare'
        walk-again b {left} less =
            let l = q-late in
            record {
              some = f.some;
              sofar = next-sofar (members_from left s (t + 1)) (
                  comma s (members_from (n - 1) s) (value_of s q) m.row.goes.is b ∙ ap (λ (k : ℕ). members_from k s (t + 1)) less);
              ends = next-ends;
              json =
                  next-json
                  ∙ tour-moves s t after (obj (alone 7)) spare' false (live name (obj (alone 7))) m.inside refl (obj-comma (alone 7) (get_or s t 0) b)
                  ∙ past-tour name (obj (alone 7)) (ws-name (obj (alone 7))) (λ b w. refl) s (t + 1) spare';
              turns = omega (arith, less, f.turns, m.row.named.low, m.row.begins.low, m.row.ends.low, m.row.goes.low);
            }

        -- the brace follows
        pub walk-shut : get_or s t 0 ≡ 125 → Listed s o room (t + 1) spare' at' end'
        unfolding is_once
        walk-shut b =
            let g = over (next-sofar [] (no-comma s (members_from (n - 1) s) (value_of s q) m.row.goes.is (λ z. omega (arith, b, z)))) refl in
            record {
              json =
                  next-json
                  ∙ tour-moves s t after (obj (alone 7)) spare' false (live after (alone 7)) m.inside refl (obj_close (alone 7) (get_or s t 0) b)
                  ∙ alone-stops s 7 (Ok ((t + 1), spare')) (omega (arith, m.inside));
              once = rw (lt-ltb 0 (length (members s o)) f.some, ← g.first);
              places = g.all refl;
              ends = next-ends;
            }

-- A text that has not the usual shape, whatever the ceiling, or under c.
abbrev Unusual : List ℕ → Type 0
Unusual s = (c : ℕ) → is_usual c s ≡ false

module _ (s : List ℕ) where
  pub untagged : 0 ≡ tag_of s → Unusual s
  unfolding is_usual
  untagged e c = rw (← e) (ap (λ (b : Bool). leb 3 c && b) (and-false (is_end (tour s 0 value (text 8) c))) ∙ and-false (leb 3 c))

  pub no_room : (c : ℕ) → c < 3 → is_usual c s ≡ false
  unfolding is_usual
  no_room c h = rw (lt-leb 3 c h)

  no-json : (c : ℕ) → is_end (tour s 0 value (text 8) c) ≡ false → is_usual c s ≡ false
  unfolding is_usual
  no-json c e = rw e (and-false (leb 3 c))

  -- with room for three values or more
  roomy : ((n : ℕ) → is_end (tour s 0 value (text 8) (suc (suc (suc n)))) ≡ false) → Unusual s
  roomy f c = by (dec_lt c 3)
    where
      by : Dec (c < 3) → is_usual c s ≡ false
      by (yes h) = no_room c h
      by (no h) = let z : suc (suc (suc (c - 3))) ≡ c = omega arith in no-json c (ap (λ (n : ℕ). is_end (tour s 0 value (text 8) n)) (sym z) ∙ f (c - 3))

  not_listed : is_once s (members s (object_of s)) ≡ false → Unusual s
  unfolding is_usual
  not_listed e c =
      rw (e, and-false (ltb 0 (tag_of s))) (ap (λ (b : Bool). leb 3 c && b) (and-false (is_end (tour s 0 value (text 8) c))) ∙ and-false (leb 3 c))

-- The beginning: the bracket at o, the tag at x to e, the comma at c, the brace at y.
module _ (s : List ℕ) {o : ℕ} (at-o : o ≡ past s 0) where
  pub begins-no-array : (get_or s o 0 ≡ 91 → ⊥) → Unusual s
  begins-no-array ne = untagged s (no-array s at-o ne)

  module _ (array : get_or s o 0 ≡ 91) {x : ℕ} (at_x : x ≡ past s (o + 1)) where
    pub begins-no-string : (get_or s x 0 ≡ 34 → ⊥) → Unusual s
    begins-no-string ne = let h = there s o 90 array in untagged s (no-tag s at-o at_x (length s) refl (omega arith) ne)

    module _ (quote : get_or s x 0 ≡ 34) where
      to-string : (n : ℕ) → tour s 0 value (text 8) (suc n) ≡ tour s x value (arr (text 8)) n
      to-string n =
          let ink : is_ws (get_or s x 0) ≡ false = ap (λ (i : ℕ). is_ws (get_or s i 0)) at_x ∙ past-ink s (o + 1) (omega (arith, at_x, there s x 33 quote)) in
          past-tour value (text 8) (ws-value (text 8)) ws-not s 0 (suc n)
          ∙ ap (λ (i : ℕ). tour s i value (text 8) (suc n)) (sym at-o)
          ∙ opens-some s o (text 8) (arr (text 8)) first (there s o 90 array) (not-ws (get_or s o 0) (omega arith)) (value-arr (text 8) (get_or s o 0) array (omega arith)) n
          ∙ past-tour first (arr (text 8)) (ws-first (arr (text 8))) first-not s (o + 1) n
          ∙ ap (λ (i : ℕ). tour s i first (arr (text 8)) n) (sym at_x)
          ∙ tour-alike s x first value (arr (text 8)) n (there s x 33 quote) (first_alike (get_or s x 0) ink (λ z. omega (arith, quote, z)))
          (first-value (text 8) (get_or s x 0) ink (λ z. omega (arith, quote, z)))

      pub begins-broken : passed s x ≡ None → Unusual s
      begins-broken z = roomy s (λ n. ap is_end (to-string (suc (suc n))) ∙ string-stuck s x (there s x 33 quote) quote z (arr (text 8)) (suc n))

      module _ {e : ℕ} (at-e : passed s x ≡ Some e) where
        pub tag-string : PassedString s x e
        tag-string = string-passed s x (there s x 33 quote) quote at-e

        module _ {c : ℕ} (at_c : c ≡ past s e) where
          at-follow : c ≡ follows s x
          unfolding follows
          at-follow = at_c ∙ ap (past s) tag-string.ends.is

          pub begins-alone : (get_or s c 0 ≡ 44 → ⊥) → Unusual s
          begins-alone ne = let h = there s o 90 array in untagged s (one-alone s at-o at_x (length s) refl (omega arith) quote at-follow ne)

          module _ (more-one : get_or s c 0 ≡ 44) {y : ℕ} (at_y : y ≡ past s (c + 1)) where
            early : 0 < c
            early = omega (arith, at_c, past-low s e, tag-string.beyond)

            pub begins-no-object : (get_or s y 0 ≡ 123 → ⊥) → Unusual s
            begins-no-object ne =
                let h = there s c 43 more-one in
                untagged s (no-object s at-o at_x (length s) refl (omega arith) quote at-follow more-one (let l = early in omega arith) at_y ne)

            module _ (object : get_or s y 0 ≡ 123) {u : List ℕ} {tag : ℕ} (called : u ≡ part s (x + 1) (e - 1)) (numbered : tag ≡ word_spelled tags u) where
              pub begun : Begun s tag y
              begun =
                  let h = there s c 43 more-one in
                  let i = there s y 122 object in
                  let l = early in
                  let g : c < y = omega (arith, at_y, past-low s (c + 1)) in
                  record {
                    json = λ n.
                        to-string (suc n) ∙ tag-string.same (arr (text 8)) n
                        ∙ past-tour after (arr (text 8)) (λ b g. ws-arr b g (text 8)) (λ b w. refl) s e n
                        ∙ ap (λ (i : ℕ). tour s i after (arr (text 8)) n) (sym at_c)
                        ∙ tour-moves s c after (arr (text 8)) n false (live value (arr (text 8))) h refl (arr-comma (text 8) (get_or s c 0) more-one)
                        ∙ past-tour value (arr (text 8)) (ws-value (arr (text 8))) ws-not s (c + 1) n
                        ∙ ap (λ (i : ℕ). tour s i value (arr (text 8)) n) (sym at_y);
                    brace = object;
                    two = λ ne.
                        a_pair s at-o at_x (length s) refl (omega arith) quote at-follow more-one (omega arith) at_y refl array object ne i
                        (called ∙ raw-is s x (closing-is s x tag-string.ends)) numbered;
                    three = λ z. (three s at-o at_x (length s) refl (omega arith) quote at-follow more-one (omega arith) at_y refl z (omega arith));
                  }

              pub no-such-tag : tag ≡ 0 → Unusual s
              no-such-tag z = untagged s (by (ℕ_discrete (get_or s (follows s y) 0) 44))
                where
                  by : Dec (get_or s (follows s y) 0 ≡ 44) → 0 ≡ tag_of s
                  by (yes g) = begun.three g
                  by (no g) = sym z ∙ (begun.two g).is

-- The end, under a ceiling that leaves room for n values inside the object.
module _ {s : List ℕ} {c n tag o : ℕ} (big : c ≡ suc (suc (suc n))) (some : 0 < tag) (b : Begun s tag o) where
  to-object : tour s 0 value (text 8) c ≡ resume s after (arr (text 8)) (lone 7 (suc n) s o)
  to-object = ap (tour s 0 value (text 8)) big ∙ b.json (suc n) ∙ tour-around s 7 (arr (text 8)) refl o (suc n)

  o_in : o < length s
  o_in = there s o 122 b.brace

  -- a comma behind the object, or none: then the text is an array of two
  module _ (A : Type 0) (many : 0 ≡ tag_of s → A) (pair : Shaped s tag o → A) where
    by-comma : A
    by-comma = by (ℕ_discrete (get_or s (follows s o) 0) 44)
      where
        by : Dec (get_or s (follows s o) 0 ≡ 44) → A
        by (yes g) = many (b.three g)
        by (no g) = pair (b.two g)

  -- the object is not listed
  pub fields_unusual : is_listed s o n ≡ false → is_usual c s ≡ false
  unfolding is_listed
  fields_unusual z = by (lone 7 (suc n) s o) (is_once s (members s o)) refl refl z
    where
      by : (r : Toured) (y : Bool) → lone 7 (suc n) s o ≡ r → is_once s (members s o) ≡ y → (is_end r && y) ≡ false → is_usual c s ≡ false
      by (Ok (w, m)) true g h k = cc
      by (Ok (w, m)) false g h k = by-comma (is_usual c s ≡ false) (λ u. untagged s u c) (λ p. not_listed s (rw (← p.opens) h) c)
      by (Err f) y g h k = no-json s c (ap is_end to-object ∙ stuck-on s after (arr (text 8)) (lone 7 (suc n) s o) (ap is_end g))

  module _ {e room : ℕ} {t es : List ℕ} (l : Listed s o n e room t es) where
    object-end : one 7 s o ≡ Ok e
    object-end = lone-ends 7 (suc n) s o e room l.json

    module _ {z : ℕ} (at-z : z ≡ past s e) where
      z-follows : z ≡ follows s o
      unfolding follows
      z-follows = at-z ∙ ap (past s) (sym (ends_open 7 s o e o_in (inr (inr b.brace)) object-end))

      to_end : tour s 0 value (text 8) c ≡ tour s z after (arr (text 8)) room
      to_end =
          to-object ∙ ap (resume s after (arr (text 8))) l.json
          ∙ past-tour after (arr (text 8)) (λ x g. ws-arr x g (text 8)) (λ x w. refl) s e room
          ∙ ap (λ (i : ℕ). tour s i after (arr (text 8)) room) (sym at-z)

      z-high : z ≤ length s
      z-high = let h = o_in in omega (arith, at-z, past-inner s e (one-ends 7 s o e (omega arith) object-end).1)

      -- the array does not end behind it
      pub no-bracket : (get_or s z 0 ≡ 93 → ⊥) → is_usual c s ≡ false
      no-bracket ne = by (ℕ_discrete (get_or s z 0) 44)
        where
          by : Dec (get_or s z 0 ≡ 44) → is_usual c s ≡ false
          by (yes g) = untagged s (b.three (ap (λ (i : ℕ). get_or s i 0) (sym z-follows) ∙ g)) c
          by (no g) =
              no-json s c
              (ap is_end to_end
              ∙ arr-end s after (text 8) room z z-high
              (λ i. arr-miss (text 8) (get_or s z 0) (ap (λ (j : ℕ). is_ws (get_or s j 0)) at-z ∙ past-ink s e (omega (arith, at-z))) ne g))

      module _ (array : get_or s z 0 ≡ 93) {w : ℕ} (at-w : w ≡ past s (z + 1)) where
        to_last : tour s 0 value (text 8) c ≡ tour s w after (text 8) room
        to_last =
            to_end
            ∙ tour-moves s z after (arr (text 8)) room false (live after (text 8)) (there s z 92 array) refl (arr_close (text 8) (get_or s z 0) array)
            ∙ past-tour after (text 8) (λ x g. ws-text x g 8) (λ x w. refl) s (z + 1) room
            ∙ ap (λ (i : ℕ). tour s i after (text 8) room) (sym at-w)

        -- something stands behind the array
        pub more-behind : w < length s → is_usual c s ≡ false
        more-behind h =
            no-json s c
            (ap is_end to_last
            ∙ dead_end s after (text 8) room w h (trail (get_or s w 0) (ap (λ (j : ℕ). is_ws (get_or s j 0)) at-w ∙ past-ink s (z + 1) (omega (arith, at-w)))))

        pub usual : length s ≤ w → w ≤ length s → Usual c s tag room t es
        unfolding is_usual field_places
        usual low high =
            let shape : Shaped s tag o = b.two (λ g. let y = ap (λ (i : ℕ). get_or s i 0) z-follows in omega (arith, array)) in
            let at : o ≡ object_of s = shape.opens in
            let json : tour s 0 value (text 8) c ≡ Ok (w, room) =
            to_last ∙ tour-is s w after (text 8) room (Ok w) [] (whole s w high low) (places_halt s w after (text 8) (omega arith)) in
            let three : leb 3 c ≡ true = le-leb 3 c (omega arith) in
            let once : is_once s (members s (object_of s)) ≡ true = rw (← at) l.once in
            let tagged : ltb 0 (tag_of s) ≡ true = lt-ltb 0 (tag_of s) (omega (arith, shape.is)) in
            record {
              is = rw (three, json, tagged, once);
              tagged = shape.is;
              spare = rw json;
              places = rw (← at) l.places;
              ends = l.ends;
            }

-- rows 4 to 7 and 11 on a text of the usual shape
module _ {c : ℕ} {s : List ℕ} {tag room : ℕ} {t es : List ℕ} (u : Usual c s tag room t es) where
  pub usual-few : tag < 5
  usual-few = omega (arith, u.tagged, tag-few s)

  pub usual-ends : Ended s t es
  usual-ends = ends-known s t u.ends

  usual-end : (e : ℕ) × (tour s 0 value (text 8) c ≡ Ok (e, room))
  unfolding is_usual
  usual-end =
      let h = (and_parts (leb 3 c) (is_end (tour s 0 value (text 8) c) && (ltb 0 (tag_of s) && is_once s (members s (object_of s)))) u.is).1 in
      by (tour s 0 value (text 8) c) refl u.spare (and_parts (is_end (tour s 0 value (text 8) c)) (ltb 0 (tag_of s) && is_once s (members s (object_of s))) h).0
    where
      by : (r : Toured) → tour s 0 value (text 8) c ≡ r → room ≡ room_in r → is_end r ≡ true → (e : ℕ) × (tour s 0 value (text 8) c ≡ Ok (e, room))
      by (Ok (w, m)) f g h = (w, f ∙ ap (λ (n : ℕ). Ok (w, n)) (sym g))
      by (Err x) f g h = clash h refl

  pub usual-room : room ≤ c
  usual-room = tour-room c s usual-end.0 room usual-end.1

  -- its parts: a tag, and no name twice
  usual-parts : (0 < tag) × (repeated fields s empty (members s (object_of s)) ≡ 0)
  unfolding is_usual is_once
  usual-parts =
      let d = and_parts (leb 3 c) (is_end (tour s 0 value (text 8) c) && (ltb 0 (tag_of s) && is_once s (members s (object_of s)))) u.is in
      let e = and_parts (is_end (tour s 0 value (text 8) c)) (ltb 0 (tag_of s) && is_once s (members s (object_of s))) d.1 in
      let f = and_parts (ltb 0 (tag_of s)) (is_once s (members s (object_of s))) e.1 in
      let o = and_parts (ltb 0 (length (members s (object_of s)))) (eqb (repeated fields s empty (members s (object_of s))) 0) f.1 in
      (omega (arith, u.tagged, ltb-true 0 (tag_of s) f.0), eqb-true (repeated fields s empty (members s (object_of s))) 0 o.1)

  pub usual-some : 0 < tag
  usual-some = usual-parts.0

  usual-shaped : judged s tag t ≡ shaped s
  unfolding shaped known field_places
  usual-shaped =
      let f : t ≡ noted fields s empty (members s (object_of s)) = u.places in
      sym (rw (← u.tagged, ne_eqb tag 0 (λ y. let h = usual-some in omega arith), usual-parts.1, ← f))

  pub usual-read : {r : Reading} → r ≡ judged s tag t → ◌≡◌ {A = Report} (record { reading = r; count = c - room }) (on_json s (visited c s))
  usual-read {r} e =
      ap (λ (x : Reading). record { reading = x; count = c - room }) (e ∙ usual-shaped) ∙ sym (ap (λ (x : Toured). on_json s (total c x)) usual-end.1)
