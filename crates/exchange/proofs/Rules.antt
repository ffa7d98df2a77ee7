-- `lifting` asks some laws of the keeper's table and rule: here they are. Assumes nothing.
use Rattle.std.specs.Prelude.{Some, None, Ok, Err}
use Prim.Native.Nat.{ℕ, zero, suc, ◌+◌, ◌≤◌, ◌<◌}
use Rattle.call.proofs.Soundness.{decided-sound}
use Rattle.call.specs.Rule.{decided}
use Rattle.call.specs.inner.Sound.{Sound, SoundAfter}
use Rattle.call.specs.declared.events.Event.TheVariants.{Tick}
use Rattle.call.specs.declared.records.After.TheVariants.{Same, Set, Free}
use Rattle.call.specs.declared.records.After.{After}
use Rattle.call.specs.declared.records.Call.{Call}
use Rattle.exchange.proofs.Parts.{Fit, opened, altered, rule, is_at, ours}
use Rattle.exchange.specs.Sequence.{Event, message, tick, name_read, name_of}
use Rattle.keeper.proofs.FactLaws.{sound-call, sound-fields, fit-fields, numbered}
use Rattle.message.proofs.Accepted.{read_named}
use Rattle.keeper.specs.Facts.{call_of, fields_from, event_of}
use Rattle.keeper.specs.inner.Known.{Fitting}
use Rattle.keeper.specs.Keeping.{record_for}
use Rattle.message.specs.inner.Named.{Named}
use Rattle.lifting.proofs.FirstLaws.{first-before, first-hit}
use Rattle.lifting.specs.inner.First.{first, count, bit}
use Rattle.lifting.specs.inner.Keeper as lifted
use Rattle.message.specs.Parties.{call_id_of, user_of, caller_fire_of, callee_fire_of}
use Rattle.message.specs.Reading.{reading}
use Rattle.message.specs.declared.facts.Message.{Message}
use Rattle.message.specs.Refusal.{Reading}
use Rattle.octets.proofs.TextLaws.{same-eq, same_self}
use Rattle.octets.proofs.TestLaws.{and_parts, clash}
use Rattle.octets.specs.Number.{onto}
use Rattle.octets.specs.Text.{same}
use Rattle.rules.proofs.PartLaws.{call_id_length, user-length, fire-length}
use Rattle.table.proofs.FieldLaws.{Fits}
use Rattle.table.proofs.ImageLaws.{length_with, size_with, with_same, with_other, with_header}
use Rattle.table.proofs.KeepLaws.{Ruled, call_id_kept, fields-stored, stored-sound, call_id_new, fields-new, new-sound, used-not-free, sound-used, free-sound, named-used, named-is}
use Rattle.table.proofs.LookupLaws.{named-own}
use Rattle.table.proofs.RecordLaws.{length-with_fields, length-new_record}
use Rattle.table.proofs.RoomLaws.{zeros-are}
use Rattle.table.proofs.SearchLaws.{Is as Lowest, Searched, at, nowhere, searched}
use Rattle.table.proofs.SoundLaws.{record_used}
use Rattle.table.specs.Image.{record_count, record_at, record_size, with_record, free_record}
use Rattle.table.specs.Record.{record_fields, is_free, is_named, new_record, same_parties, with_fields}
use Rattle.table.specs.Search.{free_place, lowest_found}
use Rattle.table.specs.WellFormed.{zeros, used_sound, record_sound, frame_sound}
use Rattle.table.specs.declared.numbers.Fields.{Fields}
use borrow.Author.Tests.{ltb-false, lt-ltb}
use lib.Dec.{ltb}
use lib.ListN.{length, replicate, length-replicate}
use mathlib.Core.Bool.{Bool, true, false, cond}
use mathlib.Core.List.{List}
use mathlib.Core.Path.{◌≡◌, refl, sym, ap, ◌∙◌}
use native.Mathlib.Decide.{ℕ_discrete, dec_lt}
use native.Mathlib.Omega.{arith}

-- Call-IDs are told apart by their bytes
pub same_id : Discrete (List ℕ)
same_id a b = go (same a b) refl
  where
    go : (v : Bool) → same a b ≡ v → Dec (a ≡ b)
    go true e = yes (same-eq a b e)
    go false e = no (λ w. clash (ap (same a) (sym w) ∙ same_self a) e)

-- Records.

frame_with : (t : List ℕ) (k : ℕ) (x : List ℕ) → frame_sound t ≡ true → k < record_count t → Fit x → frame_sound (with_record t k x) ≡ true
unfolding frame_sound
frame_with t k x f h fit = rw (length_with t k h x fit.long, with_header t k h x fit.long) f

free-zeros : (r : List ℕ) → record_sound r ≡ true → is_free r ≡ true → zeros r ≡ true
unfolding record_sound
free-zeros r s e = go (zeros r) (used_sound r) refl refl
  where
    go : (a b : Bool) → zeros r ≡ a → used_sound r ≡ b → zeros r ≡ true
    go true b p q = p
    go false true p q = absurd (clash e (used-not-free r q))
    go false false p q = absurd (clash s (rw (p, q)))

free-blank : (r : List ℕ) → Fit r → is_free r ≡ true → r ≡ free_record
free-blank r f e = zeros-are r (free-zeros r f.sound e) ∙ ap (λ n. replicate n 0) f.long

free_nameless : (i r : List ℕ) → is_free r ≡ true → is_named i r ≡ false
unfolding is_named
free_nameless i r e = rw e

one_name : (i j r : List ℕ) → is_named i r ≡ true → is_named j r ≡ true → i ≡ j
one_name i j r p q = sym (named-is i r p) ∙ named-is j r q

fitting : (f : Fields) → Fits f → Fitting f
fitting f h = record { caller = h.caller; callee = h.callee; last = h.last }

used-fit : (r : List ℕ) → length r ≡ record_size → used_sound r ≡ true → Fitting (record_fields r) → Fit r
used-fit r l u f =
    record { long = l; sound = sym (record_used r (λ w. clash (rw w) (used-not-free r u)) (sym u)); fitting = f }

blank-fit : Fit free_record
unfolding record_fields onto
blank-fit =
    let a : (record_fields free_record).caller ≡ 0 = refl in
    let b : (record_fields free_record).callee ≡ 0 = refl in
    let d : (record_fields free_record).last ≡ 0 = refl in
    record {
      long = length-replicate {A = ℕ} record_size 0;
      sound = free-sound;
      fitting = record { caller = omega (arith, a); callee = omega (arith, b); last = omega (arith, d) };
    }

-- What the rule gives.

some_is : {x y : List ℕ} → Some x ≡ Some y → x ≡ y
some_is e = cc

none-some : {A : Type 0} {x : List ℕ} → None ≡ Some x → A
none-some e = absurd (let z : ◌≡◌ {A = ℕ} 0 1 = cc in omega arith)

-- a new record is the message's own
module _ (s : List ℕ) (m : Message) (n : Named s m) where
  new-fit : (c : Call) → Sound c → Fit (record_for s m c) × (is_named (call_id_of s m) (record_for s m c) ≡ true)
  unfolding record_for
  new-fit c sound =
      let i = call_id_of s m in
      let u = user_of s m in
      let a = caller_fire_of s m in
      let b = callee_fire_of s m in
      let f = fields_from c in
      let r : Ruled i u a b = record { call_id = n.call_id; user = n.user; caller-fire = n.caller-fire; callee-fire = n.callee-fire } in
      let l1 = (call_id_length i n.call_id).1 in
      let l2 = (user-length u n.user).1 in
      let l3 = (fire-length a n.caller-fire).1 in
      let l4 = (fire-length b n.callee-fire).1 in
      let g : used_sound (new_record i u a b f) ≡ true = new-sound i u a b f r (sound-fields c sound) (fit-fields c sound) in (
        used-fit (new_record i u a b f) (length-new_record i u a b f l1 l2 l3 l4) g
            (rw (fields-new i u a b f l1 l2 l3 l4 (fit-fields c sound)) (fitting f (fit-fields c sound))),
        named-own i (new_record i u a b f) (used-not-free (new_record i u a b f) g) (call_id_new i u a b f l1 l2 l3 l4),
      )

  opened-own : (after : After) → SoundAfter after → (x : List ℕ) → opened s m after ≡ Some x → Fit x × (is_named (call_id_of s m) x ≡ true)
  opened-own Same sound x e = none-some e
  opened-own (Set c) sound x e = rw (sym (some_is e)) (new-fit c sound)
  opened-own Free sound x e = none-some e

-- a record altered is the same call's
module _ (i r : List ℕ) (fit : Fit r) (own : is_named i r ≡ true) where
  used : used_sound r ≡ true
  used = sound-used r fit.sound (named-used i r own)

  pub old-sound : Sound (call_of (record_fields r))
  unfolding used_sound
  old-sound = sound-call (record_fields r) (and_parts _ _ used).0 fit.fitting

  set-fit : (c : Call) → Sound c → Fit (with_fields r (fields_from c)) × (is_named i (with_fields r (fields_from c)) ≡ true)
  set-fit c sound =
      let f = fields_from c in
      let g : used_sound (with_fields r f) ≡ true = stored-sound r f fit.long used (sound-fields c sound) (fit-fields c sound) in (
        used-fit (with_fields r f) (length-with_fields r f fit.long) g (rw (fields-stored r f fit.long (fit-fields c sound)) (fitting f (fit-fields c sound))),
        named-own i (with_fields r f) (used-not-free (with_fields r f) g) (call_id_kept r f fit.long ∙ named-is i r own),
      )

  altered-own : (after : After) → SoundAfter after → (x : List ℕ) → altered r after ≡ Some x → Fit x × (is_named i x ≡ true)
  altered-own Same sound x e = rw (sym (some_is e)) (fit, own)
  altered-own (Set c) sound x e = rw (sym (some_is e)) (set-fit c sound)
  altered-own Free sound x e = none-some e

-- a message that names a call
pub record Says (c : ℕ) (s i : List ℕ) : Type 0 where
  pub said : Message
  pub read : reading c s ≡ Ok said
  pub low : said.tag ≤ 2
  pub is : call_id_of s said ≡ i

pub says : (c : ℕ) (s i : List ℕ) → name_read s (reading c s) ≡ Some i → Says c s i
says c s i = go (reading c s) refl
  where
    go : (r : Reading) → reading c s ≡ r → name_read s r ≡ Some i → Says c s i
    go (Err r) e w = none-some w
    go (Ok m) e w = by (ltb 2 m.tag) refl w
      where
        by : (b : Bool) → ltb 2 m.tag ≡ b → cond b None (Some (call_id_of s m)) ≡ Some i → Says c s i
        by true q v = none-some v
        by false q v = record { said = m; read = e; low = ltb-false _ _ q; is = some_is v }

new-own : (c : ℕ) (e : Event) (i x : List ℕ) → name_of c e ≡ Some i → (rule c e None).1 ≡ Some x → Fit x × (is_named i x ≡ true)
unfolding name_of
new-own c (message now s) i x w r =
    let y = says c s i w in
    let m = y.said in
    let n = read_named c s m y.read y.low in
    rw (sym y.is) (opened-own s m n (decided None (event_of m false) now.milliseconds).after
    (decided-sound None (event_of m false) now.milliseconds tt (numbered m false n.number-low n.number-high) now.fits) x (rw y.read at r))
new-own c (tick now id) i x w r = none-some r

keep-own : (c : ℕ) (e : Event) (i r x : List ℕ) → name_of c e ≡ Some i → Fit r → is_named i r ≡ true → (rule c e (Some r)).1 ≡ Some x → Fit x × (is_named i x ≡ true)
unfolding name_of
keep-own c (message now s) i r x w fit own q =
    let y = says c s i w in
    let m = y.said in
    let n = read_named c s m y.read y.low in
    let b = same_parties (user_of s m) (caller_fire_of s m) (callee_fire_of s m) r in
    altered-own i r fit own (decided (Some (call_of (record_fields r))) (event_of m b) now.milliseconds).after
    (decided-sound (Some (call_of (record_fields r))) (event_of m b) now.milliseconds (old-sound i r fit own) (numbered m b n.number-low n.number-high) now.fits) x
    (rw y.read at q)
keep-own c (tick now id) i r x w fit own q =
    altered-own i r fit own (decided (Some (call_of (record_fields r))) Tick now.milliseconds).after
    (decided-sound (Some (call_of (record_fields r))) Tick now.milliseconds (old-sound i r fit own) tt now.fits) x q

-- The two searches, `lowest_found` of the table and `first` of `lifting`, find the same.

pub first-is : (p : ℕ → Bool) (n k : ℕ) → Lowest p n k → first p n ≡ k
first-is p n k l = go (dec_lt (first p n) k) (dec_lt k (first p n))
  where
    go : Dec (first p n < k) → Dec (k < first p n) → first p n ≡ k
    go (yes a) d = absurd (clash (first-hit p n (let i = l.inside in omega arith)) (l.before (first p n) a))
    go (no a) (yes b) = absurd (clash l.passes (first-before p n k b))
    go (no a) (no b) = omega arith

pub first-none : (p : ℕ → Bool) (n : ℕ) → ((k : ℕ) → k < n → p k ≡ false) → n ≤ first p n
first-none p n f = go (dec_lt (first p n) n)
  where
    go : Dec (first p n < n) → n ≤ first p n
    go (yes a) = absurd (clash (first-hit p n a) (f (first p n) a))
    go (no a) = omega arith

count_none : (p : ℕ → Bool) (n : ℕ) → ((k : ℕ) → k < n → p k ≡ false) → count p n ≡ 0
unfolding count
count_none p zero f = refl
count_none p (suc n) f = rw (f n (omega arith), count_none p n (λ k h. f k (omega arith)))

count-some : (p : ℕ → Bool) (n k : ℕ) → k < n → p k ≡ true → 1 ≤ count p n
unfolding count
count-some p zero k h e = absurd (omega arith)
count-some p (suc n) k h e = go (count-some p n k) (ℕ_discrete k n)
  where
    go : (k < n → p k ≡ true → 1 ≤ count p n) → Dec (k ≡ n) → 1 ≤ bit (p n) + count p n
    go ih (yes w) = let q : bit (p n) ≡ 1 = rw (sym w, e) in omega (arith, q)
    go ih (no w) = let q = ih (omega arith) e in omega arith

admits-room : (t : List ℕ) (e : Event) → is_at (free_place t) ≡ true → first (λ k. is_free (record_at t k)) (record_count t) < record_count t
unfolding free_place
admits-room t e w = go (searched (λ k. is_free (record_at t k)) (record_count t))
  where
    go : Searched (λ k. is_free (record_at t k)) (record_count t) → first (λ k. is_free (record_at t k)) (record_count t) < record_count t
    go (at i q l) = rw (first-is (λ k. is_free (record_at t k)) (record_count t) i l) l.inside
    go (nowhere q f) = absurd (clash w (rw q))

admits-count : (t : List ℕ) → is_at (free_place t) ≡ ltb 0 (count (λ k. is_free (record_at t k)) (record_count t))
unfolding free_place
admits-count t = go (searched (λ k. is_free (record_at t k)) (record_count t))
  where
    go : Searched (λ k. is_free (record_at t k)) (record_count t)
        → is_at (lowest_found (λ k. is_free (record_at t k)) (record_count t)) ≡ ltb 0 (count (λ k. is_free (record_at t k)) (record_count t))
    go (at i q l) = rw (q, lt-ltb 0 _ (count-some (λ k. is_free (record_at t k)) (record_count t) i l.inside l.passes))
    go (nowhere q f) = rw (q, count_none (λ k. is_free (record_at t k)) (record_count t) f)

admits-alike : (c : ℕ) (t u : List ℕ) (e : Event) → lifted.Good (ours c) t → lifted.Good (ours c) u → lifted.Alike (ours c) t u → is_at (free_place t) ≡ is_at (free_place u)
admits-alike c t u e gt gu s = admits-count t ∙ ap (ltb 0) (s.tallies is_free) ∙ sym (admits-count u)

pub laws : (c : ℕ) → lifted.Laws (ours c)
laws c =
    record {
      same_id = same_id;
      put-frame = frame_with;
      size-put = λ t k x f h fit. size_with t k h x fit.long;
      put_same = λ t k x f h fit. with_same t k h x fit.long;
      put_other = λ t k l x f h g ne fit. with_other t k h x fit.long l g ne;
      blank-fit = blank-fit;
      blank-free = refl;
      free-blank = free-blank;
      free_nameless = free_nameless;
      one_name = one_name;
      new-own = new-own c;
      keep-own = keep-own c;
      admits-room = admits-room;
      admits-alike = admits-alike c;
    }
