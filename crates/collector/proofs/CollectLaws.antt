-- Laws of a collection: how it begins in the needed parts, what it leaves there, and its ways out.
use Rattle.std.specs.Prelude.{ℕ, ◌≤◌, ◌≡◌, Bool, true, false, ◌&&◌, List, ◌++◌, length, take, drop, replicate, leb, Result, Ok, Err}
use Rattle.std.proofs.Math.Path.{refl}
use Rattle.std.proofs.Common.{ap, arith, ◌∙◌, length-take-le, lit<, leb-true}
use Rattle.std.proofs.Math.Bool.{and-eq-true_iff}
use Rattle.layout.specs.Intervals.{shown}
use Rattle.layout.specs.Limits.{max_roots, suits, map_words, stack_words, list_words, rooms_of}
use Rattle.layout.specs.LimitsLaws.{limits, two_fit, suits_by, Suited, suits_tells, suited}
use Rattle.layout.specs.Refusal.{number}
use Rattle.layout.specs.RefusalLaws.{no_refusal, number_some, number_one}
use Rattle.layout.specs.SetUp.{first_list}
use Rattle.layout.specs.declared.Rooms.{Rooms}
use Rattle.layout.specs.declared.State.{State}
use Rattle.marking.specs.Marking.{Outcome, going, done, refused, collection}
use Rattle.machine.specs.Machine.{Fit, Begun, Ran}
use Rattle.machine.specs.declared.Progress.{Progress}
use Rattle.machine.specs.declared.Fault.{Fault}
use Rattle.collector.specs.declared.Collection.{Collection}
use Rattle.collector.specs.declared.Refused.{Refused}
use Rattle.collector.specs.Collect.{Collected, collect_told, Left, left, collect_refused, settles, collects_in, collects, Parts}

-- A collection in the needed parts.
module _ {heap : List ℕ} {t : ℕ} {roots map stack list : List ℕ} (z : Parts heap t roots map stack list) where
  -- With a clear map and the first list the machine can begin.
  pub begun : {map' list' : List ℕ} {count : ℕ} → map' ≡ replicate (length map) 0 → count ≡ length (first_list (length heap) t) → list' ≡ shown (list_words (length heap) t) (first_list (length heap) t)
      → Begun heap t roots map' stack list' count
  begun em ec el = record { limits = limits (length heap) t z.limits; few = z.few; map_clear = rw z.map_size at em; stack_size = z.stack_size; list_first = el; count_first = ec }

  -- The machine has run, and the stack is clear.
  module _ {map' stack' list' stack'' : List ℕ} {e : Result Progress Fault} (r : Ran heap t roots map' stack' list' e) (long : length stack' ≡ length stack) (es : stack'' ≡ replicate (length stack') 0) where
    -- What is left where it is done.
    pub leaves_done : {p : Progress} → e ≡ Ok p
        → left (record { code = 0; place = 0; objects = p.objects; live = p.live; references = p.references; peak = p.peak; state = record { words = length heap; keep = t; count = p.count } }) map' stack'' list' ≡ collects_in heap t roots
    unfolding collects_in
    leaves_done {p} d =
        let f : Fit heap t map' stack' list' p = rw d at r.fit in
        rw (← r.same, d, es, long, z.stack_size, f.shows.words, f.shows.count) refl

    -- What is left where it is refused, once map and list are clear.
    pub leaves_refused : {map'' list'' : List ℕ} {f : Fault} {a : Collected} → e ≡ Err f → length map' ≡ length map → map'' ≡ replicate (length map') 0 → length list' ≡ length list → list'' ≡ replicate (length list') 0
        → a ≡ collect_refused (number f.refusal) f.place (record { words = length heap; keep = t; count = 0 }) → left a map'' stack'' list'' ≡ collects_in heap t roots
    unfolding collects_in
    leaves_refused d km em kl el ea = rw (← r.same, d, ea, em, km, z.map_size, es, long, z.stack_size, el, kl, z.list_size) refl

-- What the test of three buffers tells.
pub three_fit : {m a n : ℕ} (map stack list : List ℕ) → leb m (length map) && leb a (length stack) && leb n (length list) ≡ true → (m ≤ length map) × (a ≤ length stack) × (n ≤ length list)
three_fit {m} {a} {n} map stack list e =
    let x = (and-eq-true_iff (leb m (length map) && leb a (length stack)) _).0 e in
    let y = two_fit map stack x.0 in
    (y.0, y.1, leb-true n (length list) x.1)

-- The ways out of the whole call, where the room figures are worked out.
module _ (state : State) (heap roots map stack list : List ℕ) {rooms : Rooms} (e : rooms ≡ rooms_of state.words state.keep) where
  -- The first test as the code makes it.
  abbrev pub Allowed : Bool → Type 0
  Allowed b = suits_by rooms state heap && leb (length roots) max_roots ≡ b

  -- Out of the limits it refuses with 1.
  pub refuses_limits : Allowed false → left (collect_refused 1 0 state) map stack list ≡ collects state heap roots map stack list
  unfolding collects
  refuses_limits out = rw (← suits_tells state heap e, out)

  module _ (test : Allowed true) where
    -- What the first test tells.
    tells : (suits_by rooms state heap ≡ true) × (leb (length roots) max_roots ≡ true)
    tells = (and-eq-true_iff _ _).0 test

    ok : Suited state heap rooms
    ok = suited state heap e tells.0

    -- The second test as the code makes it.
    abbrev pub Long : Bool → Type 0
    Long b = leb rooms.map (length map) && leb rooms.stack (length stack) && leb rooms.list (length list) ≡ b

    -- With a short buffer it refuses with 2.
    pub refuses_short : Long false → left (collect_refused 2 0 state) map stack list ≡ collects state heap roots map stack list
    unfolding collects
    refuses_short short = rw (← suits_tells state heap e, test, ← ok.map_room, ← ok.stack_room, ← ok.list_room_lem, short)

    module _ (long : Long true) where
      fits : (rooms.map ≤ length map) × (rooms.stack ≤ length stack) × (rooms.list ≤ length list)
      fits = three_fit map stack list long

      -- Else the needed parts are there.
      pub parts : Parts heap state.keep roots (take rooms.map map) (take rooms.stack stack) (take rooms.list list)
      parts = record {
        limits = rw ok.same ok.limits;
        few = leb-true (length roots) max_roots tells.1;
        map_size = rw ok.same (length-take-le rooms.map map fits.0 ∙ ok.map_room);
        stack_size = rw ok.same (length-take-le rooms.stack stack fits.1 ∙ ok.stack_room);
        list_size = rw ok.same (length-take-le rooms.list list fits.2 ∙ ok.list_room_lem);
      }

      -- What is left in them is left in front of the rest.
      pub accepts : {a : Collected} {map' stack' list' : List ℕ} → left a map' stack' list' ≡ collects_in heap state.keep roots
          → left a (map' ++ drop rooms.map map) (stack' ++ drop rooms.stack stack) (list' ++ drop rooms.list list) ≡ collects state heap roots map stack list
      unfolding collects
      accepts q = rw (← suits_tells state heap e, test, ← ok.map_room, ← ok.stack_room, ← ok.list_room_lem, long, ← q) refl

-- What a collection leaves in the needed parts goes with a state of the heap's words.
settles_words : (heap : List ℕ) (t : ℕ) (o : Outcome) → (settles heap t o).answer.state.words ≡ length heap
settles_words heap t (going m) = refl
settles_words heap t (done m) = refl
settles_words heap t (refused code place) = refl

-- So does what a collection leaves that ends with 0.
pub collects_words : (state : State) (heap roots map stack list : List ℕ) → let c : Left = collects state heap roots map stack list in c.answer.code ≡ 0 → c.answer.state.words ≡ length heap
unfolding collects collects_in
collects_words state heap roots map stack list e =
    let h : ℕ = state.words in
    let t : ℕ = state.keep in
    let x = no_refusal (λ (l : Left). l.answer.code) (suits state heap && leb (length roots) max_roots) _ _ (lit< tt) e in
    let y = no_refusal (λ (l : Left). l.answer.code) (leb (map_words h) (length map) && leb (stack_words h t) (length stack) && leb (list_words h t) (length list)) _ _ (lit< tt) x.1 in
    rw (x.0, y.0) (settles_words heap t (collection heap t roots))

-- No two answers are told by the same numbers.
pub collect_one : (x y : Result Collection Refused) → collect_told x ≡ collect_told y → x ≡ y
collect_one (Ok c) (Ok d) e = ap (λ (a : Collected). Ok (record { objects = a.objects; live = a.live; references = a.references; peak = a.peak; state = a.state })) e
collect_one (Ok c) (Err r) e = absurd (omega (arith, number_some r.fault.refusal, ap (λ (a : Collected). a.code) e))
collect_one (Err r) (Ok c) e = absurd (omega (arith, number_some r.fault.refusal, ap (λ (a : Collected). a.code) e))
collect_one (Err r) (Err q) e =
    let same = number_one r.fault.refusal q.fault.refusal (ap (λ (a : Collected). a.code) e) in
    rw (same, ap (λ (a : Collected). a.place) e, ap (λ (a : Collected). a.state) e) refl
