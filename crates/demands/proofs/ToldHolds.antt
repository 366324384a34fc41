-- What each call answers is told of an answer of its function, and of no other: the numbers of the rules and the answers stand for one another.
use Rattle.std.specs.Prelude.{ℕ, ◌≡◌, refl, Result, Ok, Err}
use Rattle.std.proofs.Common.{sym, ap, subst, ◌∙◌, arith}
use Rattle.std.proofs.Math.Decide.{ℕ_discrete}
use mathlib.Core.List.{List, [], ◌∷◌, map, Memᴰ}
use Rattle.layout.specs.Refusal.{number, code_told}
use Rattle.layout.specs.RefusalLaws.{number_some, number_one}
use Rattle.layout.specs.SetUp.{SetUp, Prepared, set_up_told, sets_up}
use Rattle.layout.specs.declared.State.{State}
use Rattle.layout.specs.declared.refusal.Refusal.{Refusal}
use Rattle.layout.specs.declared.refusal.Refusal.TheVariants as is
use Rattle.freelist.specs.declared.figures.Figures.{Figures}
use Rattle.collector.specs.Collect.{Collected, Left, collect_told, collects}
use Rattle.collector.specs.declared.Collection.{Collection}
use Rattle.collector.specs.declared.Refused.{Refused}
use Rattle.store.specs.Allot.{Allotted, Allotment, allot_told, allots}
use Rattle.store.specs.declared.allots.NewObject.{NewObject}
use Rattle.store.specs.declared.allots.Refused as allot
use Rattle.store.specs.Fields.{Reading, Written, read_told, reads, writes}
use Rattle.store.specs.Survey.{Surveyed, survey_told, surveys}
use Rattle.image.specs.SoFar.{Numbered, wrong_line}
use Rattle.image.specs.declared.reading.WrongText.{WrongText}
use Rattle.image.specs.declared.reading.WrongText.TheVariants.{TooLong, Line}
use Rattle.demands.specs.Lent.{Lent}
use Rattle.demands.specs.Demand1.{Refuses, lent_refused, marking_refused}
use Rattle.demands.proofs.LentLaws.{lent_cases, lent_parts}
use Rattle.demands.proofs.Demand1Holds.{set_up_ends, survey_ends, read_ends, write_ends}
use Rattle.demands.proofs.Demand1AllotHolds.{allot_ends}
use Rattle.demands.proofs.Demand1CollectHolds.{collect_ends}

-- Numbers of refusals, by the refusals.
numbered : (qs : List Refusal) {n : ℕ} → Memᴰ n (map number qs) → (q : Refusal) × (number q ≡ n)
numbered [] m = elim m [ ]
numbered (q ∷ qs) (Memᴰ.head e) = (q, sym e)
numbered (q ∷ qs) (Memᴰ.tail m) = numbered qs m

-- An outcome is told of an answer, if that of a success is, and that of each refusal.
module _ {A B R : Type 0} (tell : R → B) (part : A → B) (code : A → ℕ) (refuse : ℕ → A) (outcome : A) where
  abbrev IsAnswer : Type 0
  IsAnswer = (r : R) × (tell r ≡ part outcome)

  told : (qs : List Refusal) → (code outcome ≡ 0 → IsAnswer) → ((q : Refusal) → (r : R) × (tell r ≡ part (refuse (number q)))) → Refuses code refuse (map number qs) outcome → IsAnswer
  told qs done refused ends = elim (ℕ_discrete (code outcome) 0) [
    | yes z ↦ done z
    | no some ↦
        let no = ends some in
        let q = numbered qs no.number in
        let r = refused q.0 in
        (r.0, r.1 ∙ ap (λ (n : ℕ). part (refuse n)) q.1 ∙ ap part (sym no.whole))
  ]

-- What set-up answers is told of an answer.
pub set_up_tells : (heap : List ℕ) (t : ℕ) (map list : List ℕ) → (x : Result State Refusal) × (set_up_told x ≡ (sets_up heap t map list).answer)
set_up_tells heap t map list =
    let x : Prepared = sets_up heap t map list in
    told set_up_told (λ (p : Prepared). p.answer) (λ p. p.answer.code) _ x (is.Limits ∷ is.Room ∷ []) (λ z. (Ok x.answer.state, fresh x.answer z)) (λ q. (Err q, refl)) (set_up_ends heap t map list).refuses
  where
    fresh : (a : SetUp) → a.code ≡ 0 → set_up_told (Ok a.state) ≡ a
    fresh a z i = record { code = sym z i; state = a.state }

-- What an allot answers is.
pub allot_tells : (state : State) (heap map list : List ℕ) (s p : ℕ) → (x : Result NewObject allot.Refused) × (allot_told x ≡ (allots state heap map list s p).answer)
allot_tells state heap map list s p =
    let x : Allotment = allots state heap map list s p in
    told allot_told (λ (a : Allotment). a.answer) (λ a. a.answer.code) _ x (is.Limits ∷ is.Room ∷ is.List ∷ is.Size ∷ is.Full ∷ []) (λ z. (Ok (record { address = x.answer.address; state = x.answer.state }), placed x.answer z))
    (λ q. (Err (record { refusal = q; state = state }), refl)) (allot_ends state heap map list s p).refuses
  where
    placed : (a : Allotted) → a.code ≡ 0 → allot_told (Ok (record { address = a.address; state = a.state })) ≡ a
    placed a z i = record { code = sym z i; address = a.address; state = a.state }

-- What a read answers is.
pub read_tells : (state : State) (heap map : List ℕ) (a k : ℕ) → (x : Result ℕ Refusal) × (read_told x ≡ reads state heap map a k)
read_tells state heap map a k =
    let x : Reading = reads state heap map a k in
    told read_told (λ (r : Reading). r) (λ r. r.code) _ x (is.Limits ∷ is.Room ∷ is.Object ∷ is.Header ∷ is.Field ∷ []) (λ z. (Ok x.value, given x z)) (λ q. (Err q, refl)) (read_ends state heap map a k)
  where
    given : (r : Reading) → r.code ≡ 0 → read_told (Ok r.value) ≡ r
    given r z i = record { code = sym z i; value = r.value }

-- What a write answers is.
pub write_tells : (state : State) (heap map : List ℕ) (a k v : ℕ) → (x : Result Unit Refusal) × (code_told x ≡ (writes state heap map a k v).code)
write_tells state heap map a k v =
    told code_told (λ (w : Written). w.code) (λ w. w.code) _ (writes state heap map a k v) (is.Limits ∷ is.Room ∷ is.Object ∷ is.Header ∷ is.Field ∷ is.Target ∷ []) (λ z. (Ok tt, sym z)) (λ q. (Err q, refl)) (write_ends state heap map a k v).refuses

-- What a survey answers is.
pub survey_tells : (state : State) (list : List ℕ) → (x : Result Figures Refusal) × (survey_told x ≡ surveys state list)
survey_tells state list =
    let x : Surveyed = surveys state list in
    told survey_told (λ (s : Surveyed). s) (λ s. s.code) _ x (is.Limits ∷ is.Room ∷ is.List ∷ []) (λ z. (Ok x.figures, seen x z)) (λ q. (Err q, refl)) (survey_ends state list)
  where
    seen : (s : Surveyed) → s.code ≡ 0 → survey_told (Ok s.figures) ≡ s
    seen s z i = record { code = sym z i; figures = s.figures }

-- What a collection answers is.
module _ (state : State) (heap roots map stack list : List ℕ) where
  abbrev IsCollected : Left → Type 0
  IsCollected x = (r : Result Collection Refused) × (collect_told r ≡ x.answer)

  -- Where it has met all that is asked of it.
  given : Lent state heap roots map stack list → IsCollected (collects state heap roots map stack list)
  given lent =
      let x : Left = collects state heap roots map stack list in
      let ends = collect_ends state heap roots map stack list in
      told collect_told (λ (l : Left). l.answer) (λ l. l.answer.code) (marking_refused state map stack list x.answer.place) x (is.Address ∷ is.Header ∷ is.Overlap ∷ [])
      (λ z. (Ok (record { objects = x.answer.objects; live = x.answer.live; references = x.answer.references; peak = x.answer.peak; state = x.answer.state }), found x.answer z (ends.succeeds z).nowhere))
      (λ q. (Err (record { fault = record { refusal = q; place = x.answer.place }; state = record { words = state.words; keep = state.keep; count = 0 } }), refl))
      (ends.fails lent)
    where
      found : (a : Collected) → a.code ≡ 0 → a.place ≡ 0 → collect_told (Ok (record { objects = a.objects; live = a.live; references = a.references; peak = a.peak; state = a.state })) ≡ a
      found a z w i = record { code = sym z i; place = sym w i; objects = a.objects; live = a.live; references = a.references; peak = a.peak; state = a.state }

  -- In every case.
  pub collect_tells : (x : Result Collection Refused) × (collect_told x ≡ (collects state heap roots map stack list).answer)
  collect_tells =
      let early : (q : Refusal) → IsCollected (lent_refused state map stack list (number q)) = λ q. (Err (record { fault = record { refusal = q; place = 0 }; state = state }), refl) in
      lent_cases state heap roots map stack list IsCollected (λ lent. subst IsCollected (lent_parts state heap roots map stack list lent) (given lent)) (λ _. early is.Limits) (λ _ _. early is.Room)

-- No two answers of an allot are told by the same numbers.
pub allot_one : (x y : Result NewObject allot.Refused) → allot_told x ≡ allot_told y → x ≡ y
allot_one (Ok m) (Ok n) e = ap (λ (a : Allotted). Ok (record { address = a.address; state = a.state })) e
allot_one (Ok m) (Err r) e = absurd (omega (arith, number_some r.refusal, ap (λ (a : Allotted). a.code) e))
allot_one (Err r) (Ok m) e = absurd (omega (arith, number_some r.refusal, ap (λ (a : Allotted). a.code) e))
allot_one (Err r) (Err q) e = rw (number_one r.refusal q.refusal (ap (λ (a : Allotted). a.code) e), ap (λ (a : Allotted). a.state) e) refl

-- Nor are those of a read.
pub read_one : (x y : Result ℕ Refusal) → read_told x ≡ read_told y → x ≡ y
read_one (Ok v) (Ok w) e = ap (λ (a : Reading). Ok a.value) e
read_one (Ok v) (Err r) e = absurd (omega (arith, number_some r, ap (λ (a : Reading). a.code) e))
read_one (Err r) (Ok v) e = absurd (omega (arith, number_some r, ap (λ (a : Reading). a.code) e))
read_one (Err r) (Err q) e = ap Err (number_one r q (ap (λ (a : Reading). a.code) e))

-- Nor are those of a write.
pub code_one : (x y : Result Unit Refusal) → code_told x ≡ code_told y → x ≡ y
code_one (Ok _) (Ok _) e = refl
code_one (Ok _) (Err r) e = absurd (omega (arith, number_some r, e))
code_one (Err r) (Ok _) e = absurd (omega (arith, number_some r, e))
code_one (Err r) (Err q) e = ap Err (number_one r q e)

-- Nor are those of a survey.
pub survey_one : (x y : Result Figures Refusal) → survey_told x ≡ survey_told y → x ≡ y
survey_one (Ok f) (Ok g) e = ap (λ (a : Surveyed). Ok a.figures) e
survey_one (Ok f) (Err r) e = absurd (omega (arith, number_some r, ap (λ (a : Surveyed). a.code) e))
survey_one (Err r) (Ok f) e = absurd (omega (arith, number_some r, ap (λ (a : Surveyed). a.code) e))
survey_one (Err r) (Err q) e = ap Err (number_one r q (ap (λ (a : Surveyed). a.code) e))

-- Nor are those of a wrong text, where its lines are numbered from 1 on, as `image::read` numbers them.
pub wrong_one : (x y : WrongText) → Numbered x → Numbered y → wrong_line x ≡ wrong_line y → x ≡ y
wrong_one TooLong TooLong p q e = refl
wrong_one TooLong (Line n) p q e = absurd (omega (arith, q, e))
wrong_one (Line n) TooLong p q e = absurd (omega (arith, p, e))
wrong_one (Line m) (Line n) p q e = ap (λ (k : ℕ). Line k) e
