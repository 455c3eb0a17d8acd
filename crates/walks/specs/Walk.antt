-- Laws.
-- What proofs that walk a function by hand share.
--     Locals E os      the cells of a function's locals, local 0 first: each holds a value, or is empty
--     Opened E k os    the same while the cell of local k is held otherwise, as the cells of an array's elements
--     allocs_all       the locals are allocated, and stand in the order of the source
--     frees_all        they are freed, whatever they hold
--     calls_known      a call of a function of plain data, whose contract says something of what it answers
--     calls_plain      the same where the contract says which value it answers
--     calls_told       a call of a function that is lent something, and gives something back for it
--     tests            the test at the head of a `while`: the turn goes on, or leaves the loop
-- Assumes `Logic`.
use Rattle.std.specs.Prelude.{◌≡◌, refl, Bool, not, ℕ, zero, suc, List, [], ◌∷◌, T}
use Rattle.std.proofs.Common.{sym, ap, subst}
use Rattle.std.proofs.Math.Option.{Option, none, some as full}
use seplogic.Ra.Ura.{Ura}
use base.Fraction.{full_share}
use mir.Syntax.{Ty, Callee, Place, Opd as Operand, Body, Local, local, seq, cond, skip, exit, call}
use mir.Val.{Val, vbool}
use base.Logic.{SProp, ent, sep, emp, via, mono_r, id⊢}
use base.Fml.{ftrue, fat, froom, fdies}
use prog.Wp.{Env, Calls, Loops, exits}
use types.Logic.{Logic}
use contract.Monad.{fact}
use sound.WpLaws.{FmC}
use types.Kit.{Item, ‵, raw, ◌⊛◌, some, later, mean, ⋆, push, pop, Goal, Post, post, prop, runs, lands, allocs, frees, Seq, Sq, Step, step, ◌$◌, !, done, move, drop, use0, use1, split, pick, regoal, await}
use types.Run.{Opd, Opds, first, branches, skips, jumps, forget, alloc1, alloc0, free1, free0}
use Rattle.std.specs.Borrow.{RattleType}
use denote.Laws.{Is, Tells, shows}
use denote.Steps.{only, heard, facts}
use denote.Triple.Statement.{Contract, Triple}
use denote.Triple.Call.{calls_at}

-- where the locals lie
abbrev pub LocalsAt : List Local → Type 0
LocalsAt [] = Unit {0}
LocalsAt (l ∷ ls) = ℕ × LocalsAt ls

-- the type of a local
abbrev type_of : Local → Ty
type_of (local τ h) = τ

-- the locals with their types, each where it lies
abbrev pub env_of : (ls : List Local) → LocalsAt ls → List (Ty × ℕ)
env_of [] bs = []
env_of (l ∷ ls) bs = (type_of l, bs.0) ∷ env_of ls bs.1

module _ {M : Type 1} {𝓤 : Ura M} where
  -- the cells of the locals, local 0 first. A list that is too short stands for empty cells
  abbrev pub Locals : List (Ty × ℕ) → List (Option Val) → List (Item 𝓤) → List (Item 𝓤)
  Locals [] os Γ = Γ
  Locals (e ∷ E) [] Γ = ‵ (froom e.0 e.1 0) ∷ ‵ (fdies e.0 e.1) ∷ Locals E [] Γ
  Locals (e ∷ E) (none ∷ os) Γ = ‵ (froom e.0 e.1 0) ∷ ‵ (fdies e.0 e.1) ∷ Locals E os Γ
  Locals (e ∷ E) (full v ∷ os) Γ = ‵ (fat full_share e.0 e.1 0 v) ∷ ‵ (fdies e.0 e.1) ∷ Locals E os Γ

  -- the same while the cell of local k is held otherwise
  abbrev pub Opened : List (Ty × ℕ) → ℕ → List (Option Val) → List (Item 𝓤) → List (Item 𝓤)
  Opened [] k os Γ = Γ
  Opened (e ∷ E) k [] Γ = Locals (e ∷ E) [] Γ
  Opened (e ∷ E) zero (o ∷ os) Γ = ‵ (fdies e.0 e.1) ∷ Locals E os Γ
  Opened (e ∷ E) (suc k) (none ∷ os) Γ = ‵ (froom e.0 e.1 0) ∷ ‵ (fdies e.0 e.1) ∷ Opened E k os Γ
  Opened (e ∷ E) (suc k) (full v ∷ os) Γ = ‵ (fat full_share e.0 e.1 0 v) ∷ ‵ (fdies e.0 e.1) ∷ Opened E k os Γ

module _ {M : Type 1} {𝓤 : Ura M} (𝓛 : Logic 𝓤) where
  open 𝓛 use {H}

  under : (k : Item 𝓤) (Γ Δ : List (Item 𝓤)) → ent 𝓤 (⋆ 𝓛 Γ) (⋆ 𝓛 Δ) → ent 𝓤 (⋆ 𝓛 (k ∷ Γ)) (⋆ 𝓛 (k ∷ Δ))
  under k Γ Δ h = via 𝓤 (sep 𝓤 (mean 𝓛 k) (⋆ 𝓛 Γ)) (pop 𝓛 k Γ) (via 𝓤 (sep 𝓤 (mean 𝓛 k) (⋆ 𝓛 Δ)) (mono_r 𝓤 (mean 𝓛 k) h) (push 𝓛 k Δ))

  -- what stands after the empty locals comes first
  forward : (E : Env 𝓤 H) (i j : Item 𝓤) (Γ : List (Item 𝓤)) → ent 𝓤 (⋆ 𝓛 (Locals E [] (i ∷ j ∷ Γ))) (⋆ 𝓛 (i ∷ j ∷ Locals E [] Γ))
  forward [] i j Γ = id⊢ 𝓤 _
  forward (e ∷ E) i j Γ =
      via 𝓤 (⋆ 𝓛 (‵ (froom e.0 e.1 0) ∷ ‵ (fdies e.0 e.1) ∷ i ∷ j ∷ Locals E [] Γ))
      (under (‵ (froom e.0 e.1 0)) (‵ (fdies e.0 e.1) ∷ Locals E [] (i ∷ j ∷ Γ)) (‵ (fdies e.0 e.1) ∷ i ∷ j ∷ Locals E [] Γ) (under (‵ (fdies e.0 e.1)) (Locals E [] (i ∷ j ∷ Γ)) (i ∷ j ∷ Locals E [] Γ) (forward E i j Γ)))
      moved.prf
    where
      moved : Sq 𝓛 (‵ (froom e.0 e.1 0) ∷ ‵ (fdies e.0 e.1) ∷ i ∷ j ∷ Locals E [] Γ) (prop (⋆ 𝓛 (i ∷ j ∷ ‵ (froom e.0 e.1 0) ∷ ‵ (fdies e.0 e.1) ∷ Locals E [] Γ)))
      moved = move ! (2 ∷ 3 ∷ []) $ done !

module _ {M : Type 1} {𝓤 : Ura M} {𝓛 : Logic 𝓤} {K : Type 0} where
  -- the locals are allocated, and stand in the order of the source
  open 𝓛 use {H}

  pub allocs_all : K → (ls : List Local) {Γ : List (Item 𝓤)} {Kt : Env 𝓤 H → Goal 𝓤 H} → ((bs : LocalsAt ls) → Seq K 𝓛 (Locals (env_of ls bs) [] Γ) (Kt (env_of ls bs))) → Seq K 𝓛 Γ (allocs ls Kt)
  allocs_all t [] k = alloc0 t $ k tt
  allocs_all t (local τ h ∷ ls) {Γ} {Kt} k = alloc1 t (λ b. allocs_all t ls {Γ = ‵ (froom τ b 0) ∷ ‵ (fdies τ b) ∷ Γ} {Kt = λ E. Kt ((τ, b) ∷ E)} (λ bs.
      record { prf = via 𝓤 _ (forward 𝓛 (env_of ls bs) (‵ (froom τ b 0)) (‵ (fdies τ b)) Γ) (k (b, bs)).prf }))

  -- they are freed, whatever they hold
  pub frees_all : K → (E : Env 𝓤 H) (os : List (Option Val)) {Γ : List (Item 𝓤)} {G : Goal 𝓤 H} → Step K 𝓛 Γ G (Locals E os Γ) (frees E G)
  frees_all t [] os = step (λ s. free0 t $ s)
  frees_all t (e ∷ E) [] = step (λ s. free1 t $ frees_all t E [] $ s)
  frees_all t (e ∷ E) (none ∷ os) = step (λ s. free1 t $ frees_all t E os $ s)
  frees_all t (e ∷ E) (full v ∷ os) = step (λ s. forget t 0 refl $ free1 t $ frees_all t E os $ s)

-- Calls. The callee's contract says P of what it answers: Ens is its `ensures`, and told reads it.
module _ {M : Type 1} {𝓤 : Ura M} {𝓛 : Logic 𝓤} {K : Type 0} {Γ : List (Item 𝓤)} {C : Calls 𝓤 𝓛.H} {Λ : Loops 𝓤 𝓛.H} {E : Env 𝓤 𝓛.H} {q : Post 𝓤 𝓛.H}
    (t : K) (fm : FmC 𝓤 𝓛.H 𝓛.laws C) {f : Callee} {xs : List Operand} {d : Place} {rest : Body} (c : Contract 𝓤) (met : Triple 𝓤 (C f) c) (x : c.Ghost) where
  -- a function that is lent something: i is what it is given, and j what it gives back
  pub calls_told : {i : Item 𝓤} (j : Item 𝓤) → ent 𝓤 (mean 𝓛 i) (c.pre x) → (R : RattleType) (val : R.Denot → Val) → Tells R (Is R) (λ y. val y ∷ [])
      → (P : R.Denot → Type 0) (Ens : R.Denot → SProp 𝓤) → ((v : Val) → ent 𝓤 (c.post x v) (mean 𝓛 (later (some (λ (r : R.Denot). (j ⊛ ‵ (R.own_val r (v ∷ []))) ⊛ raw (Ens r))))))
      → ((r : R.Denot) → ent 𝓤 (Ens r) (fact 𝓤 (P r))) → Opds K 𝓛 (raw (c.pre x) ∷ Γ) E xs (c.args x)
      → ((r : R.Denot) → P r → Is R r (val r ∷ []) → Seq K 𝓛 (j ∷ Γ) (lands C Λ E d (val r) rest q))
      → Seq K 𝓛 (i ∷ Γ) (runs C Λ E (seq (call f xs d) rest) q)
  calls_told j pre R val tl P Ens is-post told os k =
      use1 𝓛 (raw (c.pre x)) pre $ calls_at t fm c met x os (λ v.
      use1 𝓛 (later (some (λ (r : R.Denot). (j ⊛ ‵ (R.own_val r (v ∷ []))) ⊛ raw (Ens r)))) (is-post v) $ await t tt $ pick t (λ r.
      split t $ move t (1 ∷ []) $ use1 𝓛 (raw (fact 𝓤 (P r))) (told r) $ heard t (P r) (λ e. split t $ move t (1 ∷ []) $
      facts t R (Is R) (shows 𝓛 R) r (v ∷ []) (λ is.
      regoal t (λ (u : Val). lands C Λ E d u rest q) (ap only (tl r (v ∷ []) is)) refl $ k r e (subst (Is R r) (tl r (v ∷ []) is) is)))))

  -- a function of plain data
  pub calls_known : ent 𝓤 (emp 𝓤) (c.pre x) → (R : RattleType) (val : R.Denot → Val) → Tells R (Is R) (λ y. val y ∷ [])
      → (P : R.Denot → Type 0) (Ens : R.Denot → SProp 𝓤) → ((v : Val) → ent 𝓤 (c.post x v) (mean 𝓛 (later (some (λ (r : R.Denot). (‵ ftrue ⊛ ‵ (R.own_val r (v ∷ []))) ⊛ raw (Ens r))))))
      → ((r : R.Denot) → ent 𝓤 (Ens r) (fact 𝓤 (P r))) → Opds K 𝓛 (raw (c.pre x) ∷ Γ) E xs (c.args x)
      → ((r : R.Denot) → P r → Is R r (val r ∷ []) → Seq K 𝓛 Γ (lands C Λ E d (val r) rest q))
      → Seq K 𝓛 Γ (runs C Λ E (seq (call f xs d) rest) q)
  calls_known pre R val tl P Ens is-post told os k =
      use0 𝓛 (raw (c.pre x)) pre $ calls_at t fm c met x os (λ v.
      use1 𝓛 (later (some (λ (r : R.Denot). (‵ ftrue ⊛ ‵ (R.own_val r (v ∷ []))) ⊛ raw (Ens r)))) (is-post v) $ await t tt $ pick t (λ r.
      split t $ move t (1 ∷ []) $ use1 𝓛 (raw (fact 𝓤 (P r))) (told r) $ heard t (P r) (λ e. split t $ drop t $
      facts t R (Is R) (shows 𝓛 R) r (v ∷ []) (λ is.
      regoal t (λ (u : Val). lands C Λ E d u rest q) (ap only (tl r (v ∷ []) is)) refl $ k r e (subst (Is R r) (tl r (v ∷ []) is) is)))))

  -- the same where the contract says which value it answers
  pub calls_plain : ent 𝓤 (emp 𝓤) (c.pre x) → (R : RattleType) (val : R.Denot → Val) → Tells R (Is R) (λ y. val y ∷ [])
      → (g : R.Denot) (Ens : R.Denot → SProp 𝓤) → ((v : Val) → ent 𝓤 (c.post x v) (mean 𝓛 (later (some (λ (r : R.Denot). (‵ ftrue ⊛ ‵ (R.own_val r (v ∷ []))) ⊛ raw (Ens r))))))
      → ((r : R.Denot) → ent 𝓤 (Ens r) (fact 𝓤 (r ≡ g))) → Opds K 𝓛 (raw (c.pre x) ∷ Γ) E xs (c.args x)
      → (Is R g (val g ∷ []) → Seq K 𝓛 Γ (lands C Λ E d (val g) rest q))
      → Seq K 𝓛 Γ (runs C Λ E (seq (call f xs d) rest) q)
  calls_plain pre R val tl g Ens is-post told os k =
      calls_known pre R val tl (λ (r : R.Denot). r ≡ g) Ens is-post told os
      (λ r e. subst (λ (z : R.Denot). Is R z (val z ∷ []) → Seq K 𝓛 Γ (lands C Λ E d (val z) rest q)) (sym e) k)

-- the test at the head of a `while`: the turn goes on, or leaves the loop
module _ {M : Type 1} {𝓤 : Ura M} {𝓛 : Logic 𝓤} {K : Type 0} {Γ : List (Item 𝓤)} {C : Calls 𝓤 𝓛.H} {Λ : Loops 𝓤 𝓛.H} {E : Env 𝓤 𝓛.H} {q : Post 𝓤 𝓛.H} where
  open 𝓛 use {H}

  pub tests : K → {c : Operand} {n : ℕ} {b : Body} {y : Bool} → Opd K 𝓛 Γ E c (vbool y)
      → (T y → Seq K 𝓛 Γ (runs C Λ E b q)) → (T (not y) → Seq K 𝓛 Γ (prop (post 𝓤 H q (exits n)))) → Seq K 𝓛 Γ (runs C Λ E (seq (cond c skip (exit n)) b) q)
  tests t o held failed = first t $ branches t o (λ h. skips t $ record { prf = (held h).prf }) (λ z. jumps t $ record { prf = (failed z).prf })

-- the places of n entries from k on, for `move`
abbrev pub up_from : ℕ → ℕ → List ℕ
up_from k zero = []
up_from k (suc n) = k ∷ up_from (suc k) n

-- where local i lies
abbrev pub lies : List (Ty × ℕ) → ℕ → ℕ
lies [] i = 0
lies (e ∷ E) zero = e.1
lies (e ∷ E) (suc i) = lies E i
