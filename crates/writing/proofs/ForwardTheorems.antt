-- THEOREMS on forwarding: a request with our entry added, and a response with its last Via object taken off, are accepted by the reading again, with the
-- same facts; every byte outside the Via value is as it was; the Via objects are the old ones and then ours, or the old ones but the last; taking off
-- undoes adding; and the next host is that of the last Via object left. Over the public contracts of `add`, `remove` and `next_hop`. Assumes nothing.
use Prim.Native.Nat.{ℕ, suc, ◌≤◌}
use Rattle.frame.proofs.ArrayEdits.{but_last}
use Rattle.frame.proofs.Forwarding.{Changed}
use Rattle.frame.specs.Edit.{added, removed, stops_of}
use Rattle.json_text.specs.Places.{bytes, behind, elements, part, prev_of, last_of}
use Rattle.fields.specs.Hop.{host_of}
use Rattle.message.specs.Message.{setting_of, message_of}
use Rattle.message.specs.Reading.{ample, reading}
use Rattle.message.specs.declared.facts.Message.{Message}
use Rattle.values.specs.declared.spans.Span.{Span}
use Rattle.message.proofs.AcceptedRows.{Accepted, accepted-read, read_taken}
use Rattle.message.proofs.AlikeLaws.{SameFacts, same_bytes, alike-facts}
use Rattle.writing.proofs.ChangeLaws.{Again}
use Rattle.writing.proofs.ForwardLaws.{forward-all, added-again, reduce-all, removed-again}
use Rattle.message.proofs.MemberLaws.{shape, via_where}
use Rattle.std.specs.Prelude.{Result, Ok, Err}
use Rattle.writing.proofs.OutcomeLaws.{stood, Added, was-added, TakenOff, was-taken}
use Rattle.writing.proofs.PartLaws.{last_in, prior-last}
use Rattle.writing.proofs.PutLaws.{halves}
use Rattle.writing.proofs.TrailLaws.{trail-passed}
use Rattle.writing.proofs.WayLaws.{host_of_lem}
use Rattle.writing.specs.Adding.{entry, path_rule, adding}
use Rattle.writing.specs.Outcome.{Outcome, answered, Writes}
use Rattle.writing.specs.Removing.{removing, host_in, host_shown, Took, next_hop}
use Rattle.writing.specs.Objects.{objects}
use Rattle.writing.specs.declared.answers.Refusal.{Refusal}
use Rattle.writing.specs.declared.answers.Taken.{Taken}
use lib.ListN.{length, get_or, take, drop, length-append}
use mathlib.Core.Bool.{true}
use mathlib.Core.List.{List, [], ◌∷◌, ◌++◌}
use mathlib.Core.Path.{◌≡◌, refl, sym, ap, subst, ◌∙◌}
use native.Mathlib.Omega.{arith}

-- the values that a reply copies, Via aside, are the same byte for byte
pub record SameValues (s : List ℕ) (m : Message) (s' : List ℕ) (m' : Message) : Type 0 where
  pub cseq : bytes s' m'.cseq ≡ bytes s m.cseq
  pub to : bytes s' m'.to ≡ bytes s m.to
  pub from : bytes s' m'.from ≡ bytes s m.from
  pub call : bytes s' m'.call ≡ bytes s m.call

-- s' is the message s, read as m, with v for its Via value: it is accepted, with the same facts, and every byte outside that value is as it was
pub record Edited (s : List ℕ) (m : Message) (s' v : List ℕ) : Type 0 where
  pub message : Message
  pub read : reading ample s' ≡ Ok message
  pub facts : SameFacts m message
  pub values : SameValues s m s' message
  pub via : message.via ≡ m.via
  pub outside : s' ≡ take m.via s ++ (v ++ drop (behind s m.via) s)
  pub there : bytes s' m.via ≡ v

edited-at : {s : List ℕ} {tag : ℕ} {t : List ℕ} (a : Accepted s tag t) (s' v : List ℕ) → Changed s s' (shape a).x (shape a).y (via_where a).n (get_or t 6 0) v → Again s tag t s'
    → Edited s (message_of s (setting_of s tag t) t) s' v
unfolding message_of
edited-at {s} {tag} {t} a s' v c g = record {
  message = message_of s' (setting_of s' tag g.t') g.t';
  read = accepted-read g.accepted;
  facts = alike-facts a g.alike;
  values = record {
    cseq = sym (same_bytes a g.alike 1 (omega arith) (omega arith));
    to = sym (same_bytes a g.alike 2 (omega arith) (omega arith));
    from = sym (same_bytes a g.alike 3 (omega arith) (omega arith));
    call = sym (same_bytes a g.alike 5 (omega arith) (omega arith));
  };
  via = g.via;
  outside = c.outside;
  there = c.there;
}

via-place : (s : List ℕ) (tag : ℕ) (t : List ℕ) (m : Message) → message_of s (setting_of s tag t) t ≡ m → m.via ≡ get_or t 6 0
unfolding message_of
via-place s tag t m e = sym (ap (λ (x : Message). x.via) e)

-- a request forwarded
pub record Forwarded (s : List ℕ) (m : Message) (z s' : List ℕ) : Type 0 where
  pub edited : Edited s m s' (added (bytes s m.via) 0 z)
  pub objects : objects s' m.via ≡ objects s m.via ++ (z ∷ [])
  pub undone : removed s' m.via ≡ s

added-some : (s : List ℕ) (n : ℕ) (z : List ℕ) → 1 ≤ length s → 1 ≤ length (added s n z)
unfolding added
added-some s n z h = omega (
  arith,
  halves s (last_of (stops_of s n)),
  length-append (take (last_of (stops_of s n)) s) ((44 ∷ z) ++ drop (last_of (stops_of s n)) s),
  length-append (44 ∷ z) (drop (last_of (stops_of s n)) s),
)

module _ {s : List ℕ} {tag : ℕ} {t : List ℕ} (a : Accepted s tag t) where
  forward-at : (h d o : List ℕ) → path_rule h d o ≡ true → (length (elements s (get_or t 6 0)) ≡ 16 → ⊥) → length (added s (get_or t 6 0) (entry h d o)) ≤ 32768
      → Forwarded s (message_of s (setting_of s tag t) t) (entry h d o) (added s (get_or t 6 0) (entry h d o))
  unfolding message_of
  forward-at h d o k few l =
      let f = forward-all a h d o k few in
      let g = added-again a h d o k few (added-some s (get_or t 6 0) (entry h d o) a.some) l in
      record { edited = edited-at a (added s (get_or t 6 0) (entry h d o)) (added (bytes s (get_or t 6 0)) 0 (entry h d o)) f.changed g; objects = f.more; undone = f.undone }

pub forwarded_by : (s h d o w : List ℕ) (e : Added s h d o w) → length w ≤ 32768 → Forwarded s e.m (entry h d o) w
forwarded_by s h d o w e l =
    let a = read_taken ample s e.m e.read (omega (arith, e.request)) in
    let t = a.t in
    let v = via-place s e.m.tag t e.m a.is in
    let q : w ≡ added s (get_or t 6 0) (entry h d o) = e.is ∙ ap (λ (x : ℕ). added s x (entry h d o)) v in
    let f = forward-at a.accepted h d o e.path (λ z. e.few (ap (λ (x : ℕ). length (elements s x)) v ∙ z)) (omega (arith, ap length q)) in
    subst (λ (x : List ℕ). Forwarded s e.m (entry h d o) x) (sym q) (subst (λ (m : Message). Forwarded s m (entry h d o) (added s (get_or t 6 0) (entry h d o))) a.is f)

-- THEOREM: what `add` writes is forwarded as document 01 says
pub add_forwards : (s h d g : List ℕ) {o : List ℕ} {n : ℕ} {o' : List ℕ} → Writes o (adding s h d g) (Ok n) o'
    → (m : Message) × ((reading ample s ≡ Ok m) × Forwarded s m (entry h d g) (take n o'))
add_forwards s h d g {o} {n} {o'} w =
    let x = stood w in
    let e = was-added s h d g x.w x.is in
    (e.m, (e.read, subst (λ (z : List ℕ). Forwarded s e.m (entry h d g) z) (sym x.front) (forwarded_by s h d g x.w e x.short)))

-- a response with its last Via object taken off
pub record Returned (s : List ℕ) (m : Message) (s' : List ℕ) : Type 0 where
  pub edited : Edited s m s' (removed (bytes s m.via) 0)
  pub objects : objects s' m.via ≡ but_last (objects s m.via)

module _ {s : List ℕ} {tag : ℕ} {t : List ℕ} (a : Accepted s tag t) where
  return_at : 2 ≤ length (elements s (get_or t 6 0)) → 1 ≤ length (removed s (get_or t 6 0)) → length (removed s (get_or t 6 0)) ≤ 32768
      → Returned s (message_of s (setting_of s tag t) t) (removed s (get_or t 6 0))
  unfolding message_of
  return_at two x y =
      let f = reduce-all a two in
      let g = removed-again a two x y in
      record { edited = edited-at a (removed s (get_or t 6 0)) (removed (bytes s (get_or t 6 0)) 0) f.changed g; objects = f.less }

-- a text in which a byte stands is not empty
some_left : (w : List ℕ) (x b : ℕ) → get_or w x 0 ≡ suc b → 1 ≤ length w
some_left [] x b h = absurd (omega arith)
some_left (c ∷ w) x b h = omega arith

pub returned_by : (s h d o w : List ℕ) (e : TakenOff s h d o w) → length w ≤ 32768 → Returned s e.m w
returned_by s h d o w e l =
    let a = read_taken ample s e.m e.read (omega (arith, e.response)) in
    let t = a.t in
    let v = via-place s e.m.tag t e.m a.is in
    let q : w ≡ removed s (get_or t 6 0) = e.is ∙ ap (removed s) v in
    let two : 2 ≤ length (elements s (get_or t 6 0)) = omega (arith, e.two, ap (λ (x : ℕ). length (elements s x)) v) in
    let some : 1 ≤ length (removed s (get_or t 6 0)) = some_left (removed s (get_or t 6 0)) (shape a.accepted).y 122 (reduce-all a.accepted two).changed.again.object in
    let f = return_at a.accepted two some (omega (arith, ap length q)) in
    subst (λ (x : List ℕ). Returned s e.m x) (sym q) (subst (λ (m : Message). Returned s m (removed s (get_or t 6 0))) a.is f)

-- what `remove` answers, and what it writes
done_of : (h : Span) (w : Result ℕ Refusal) (t : Taken) → Ok t ≡ host_shown h w → (w ≡ Ok t.length) × (t.host ≡ h)
done_of h (Ok k) t q = let z : ◌≡◌ {A = Taken} t (record { length = k; host = h }) = cc in (ap Ok (sym (ap (λ (x : Taken). x.length) z)), ap (λ (x : Taken). x.host) z)
done_of h (Err r) t q = absurd (let z : ◌≡◌ {A = ℕ} 0 1 = cc in omega arith)

pub took-wrote : {h : Span} {o : List ℕ} {x : Outcome} {t : Taken} {o' : List ℕ} → Took o h x (Ok t) o' → Writes o x (Ok t.length) o'
took-wrote {h} {o} {x} {t} w = record { answer = sym (done_of h (answered (length o) x) t w.answer).0; output = w.output }

-- THEOREM: what `remove` writes is the response less its last Via object, and the next host is that of the last one left
pub remove_returns : (s h d g : List ℕ) {o : List ℕ} {t : Taken} {o' : List ℕ} → Took o (host_in (reading ample s)) (removing s h d g) (Ok t) o'
    → (m : Message) × ((reading ample s ≡ Ok m) × (Returned s m (take t.length o') × (next_hop s (Ok t) ≡ host_of (last_in (objects (take t.length o') m.via)))))
remove_returns s h d g {o} {t} {o'} w =
    let q = done_of (host_in (reading ample s)) (answered (length o) (removing s h d g)) t w.answer in
    let x = stood (took-wrote w) in
    let k = was-taken s h d g x.w x.is in
    let r = subst (λ (z : List ℕ). Returned s k.m z) (sym x.front) (returned_by s h d g x.w k x.short) in
    let v = host_of_lem s k.m k.read in
    let p = trail-passed s k.m k.read (omega (arith, k.response)) in
    let f : part s t.host.start t.host.end ≡ host_of (bytes s (prev_of (elements s k.m.via))) =
    ap (λ (j : Span). part s j.start j.end) (q.1 ∙ v) ∙ p.host (omega (arith, k.two, p.count)) in
    (k.m, (k.read, (r, f ∙ ap host_of (sym (ap last_in r.objects ∙ prior-last (bytes s) (elements s k.m.via) k.two)))))

-- THEOREM: on refusal the part is empty
pub refused-empty : (s : List ℕ) (r : Refusal) → next_hop s (Err r) ≡ []
refused-empty s r = refl

-- THEOREMS: each contract determines answer and output
pub wrote-determined : {o : List ℕ} {x : Outcome} {r₁ r₂ : Result ℕ Refusal} {o₁ o₂ : List ℕ} → Writes o x r₁ o₁ → Writes o x r₂ o₂ → (r₁ ≡ r₂) × (o₁ ≡ o₂)
wrote-determined a b = (a.answer ∙ sym b.answer, a.output ∙ sym b.output)

pub took-determined : {o : List ℕ} {h : Span} {x : Outcome} {r₁ r₂ : Result Taken Refusal} {o₁ o₂ : List ℕ} → Took o h x r₁ o₁ → Took o h x r₂ o₂ → (r₁ ≡ r₂) × (o₁ ≡ o₂)
took-determined a b = (a.answer ∙ sym b.answer, a.output ∙ sym b.output)

pub next-hop-determined : (s : List ℕ) (r : Result Taken Refusal) {p₁ p₂ : List ℕ} → p₁ ≡ next_hop s r → p₂ ≡ next_hop s r → p₁ ≡ p₂
next-hop-determined s r a b = a ∙ sym b
