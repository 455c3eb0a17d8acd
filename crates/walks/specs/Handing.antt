-- Laws.
-- A function that hands all that is lent to it on to one callee with the same parameters: what the callee says of the last
-- values is what the function says of them.
--     calls_handed     the call: all that is lent is given for good, and the last values are known
--     hands_back       the function's end: the tokens, the last values and a plain answer
--     walks_on         the function meets its contract, from a walk with its parameters' machine values written out
-- Assumes `Logic`.
use Rattle.std.specs.Prelude.{refl, List, [], ◌∷◌}
use Rattle.std.proofs.Common.{ap, subst}
use seplogic.Ra.Ura.{Ura}
use mir.Syntax.{Callee, Place, Opd as Operand, Body, seq, call}
use mir.Val.{Val}
use base.Logic.{SProp, ent, sep, wand, emp, via, comm∗, mono_l, wand_i, apply∗, id⊢}
use prog.Wp.{Env, Calls, Loops}
use types.Logic.{Logic, sem}
use contract.Monad.{Fun, fact}
use contract.Lifetimes.{Lfts, Shares, AllOutlive}
use sound.WpLaws.{FmC}
use types.Kit.{Item, ‵, raw, ◌⊛◌, ⋆, some, later, Post, runs, lands, Seq, ◌$◌, ◌∵◌, !, qed, move, use0, use1, split, join, pick, regoal, await, updating, now as at_once, show, frame, done}
use types.Run.{Opds}
use denote.RattleType.{RattleType, flat}
use denote.Laws.{Is, Tells, Are, Ises, Spells, valss, Tellss, shows}
use denote.Signature.{type_at, types_at}
use denote.Steps.{only, said, heard, facts}
use denote.Triple.Statement.{Triple}
use denote.Triple.Call.{calls_at}
use denote.Triple.Entry.{Args, Vals, alive, on_entry}
use denote.Triple.Spec.{Back, Meets, triple_of}
use denote.Triple.Clauses.{Ended, Clauses, Lasts, lasts, at_exit, ensured, closing}

-- what a function answers
abbrev pub Ret : (T : Ended) → Lfts T.signature.lifetimes → RattleType
Ret T κs = type_at T.signature.result κs

-- what it is owed: all that is lent, and what it requires
abbrev pub Owed : {M : Type 1} {𝓤 : Ura M} (𝓛 : Logic 𝓤) (T : Ended) (c : Clauses 𝓤 T) (κs : Lfts T.signature.lifetimes) (qs : Shares T.signature.lifetimes) (a : Args T.signature κs) → Vals T.signature κs → (c κs a).ghost → SProp 𝓤
Owed {𝓤 = 𝓤} 𝓛 T c κs qs a vss g = sep 𝓤 (on_entry 𝓛 T.signature κs qs a vss) ((c κs a).requires g)

module _ {M : Type 1} {𝓤 : Ura M} {𝓛 : Logic 𝓤} {K : Type 0} {Γ : List (Item 𝓤)} {C : Calls 𝓤 𝓛.H} {Λ : Loops 𝓤 𝓛.H} {E : Env 𝓤 𝓛.H} {p : Post 𝓤 𝓛.H} where
  open 𝓛 use {H}

  pub calls_handed : K → FmC 𝓤 H 𝓛.laws C → {f : Callee} {xs : List Operand} {d : Place} {rest : Body} (T : Ended) (c : Clauses 𝓤 T) → Triple 𝓤 (C f) (triple_of 𝓛 T.signature (closing 𝓛 T c))
      → (κs : Lfts T.signature.lifetimes) (qs : Shares T.signature.lifetimes) (bounds : AllOutlive T.signature.lifetimes T.signature.outlives κs) (a : Args T.signature κs) (vss : Vals T.signature κs) (g : (c κs a).ghost)
      → ent 𝓤 (emp 𝓤) ((c κs a).requires g) → (val : (Ret T κs).Denot → Val) → Tells (Ret T κs) (Is (Ret T κs)) (λ y. val y ∷ [])
      → (P : (Ret T κs).Denot → Lasts T κs a → Type 0) → ((r : (Ret T κs).Denot) (ws : Lasts T κs a) → ent 𝓤 ((c κs a).ensures g r (at_exit T κs a ws)) (fact 𝓤 (P r ws)))
      → Opds K 𝓛 (raw (Owed 𝓛 T c κs qs a vss g) ∷ Γ) E xs (flat (types_at T.signature.params κs) vss)
      → ((r : (Ret T κs).Denot) (ws : Lasts T κs a) → P r ws → Is (Ret T κs) r (val r ∷ []) → Seq K 𝓛 (raw (alive 𝓛 T.signature κs qs) ∷ ‵ (lasts T κs a ws) ∷ Γ) (lands C Λ E d (val r) rest p))
      → Seq K 𝓛 (raw (on_entry 𝓛 T.signature κs qs a vss) ∷ Γ) (runs C Λ E (seq (call f xs d) rest) p)
  calls_handed t fm {d = d} {rest = rest} T c met κs qs bounds a vss g asks val tl P told os k =
      use0 𝓛 (raw ((c κs a).requires g)) asks $ move t (1 ∷ 0 ∷ []) $ join t $ use1 𝓛 (raw (Owed 𝓛 T c κs qs a vss g)) (id⊢ 𝓤 _) $
      calls_at t fm (triple_of 𝓛 T.signature (closing 𝓛 T c)) met ((κs, qs, bounds, a, vss), g) os (λ v.
      use1 𝓛 (later (some (λ (r : (Ret T κs).Denot). (raw (alive 𝓛 T.signature κs qs) ⊛ ‵ ((Ret T κs).own_val r (v ∷ []))) ⊛ some (λ (ws : Lasts T κs a). ‵ (lasts T κs a ws) ⊛ raw ((c κs a).ensures g r (at_exit T κs a ws)))))) (id⊢ 𝓤 _) $ await t tt $ pick t (λ r.
      split t $ move t (1 ∷ []) $ pick t (λ ws. split t $ move t (1 ∷ []) $ use1 𝓛 (raw (fact 𝓤 (P r ws))) (told r ws) $ heard t (P r ws) (λ e.
      -- [the last values; the tokens and the result]
      move t (1 ∷ []) $ split t $ move t (1 ∷ []) $ facts t (Ret T κs) (Is (Ret T κs)) (shows 𝓛 (Ret T κs)) r (v ∷ []) (λ is.
      regoal t (λ (u : Val). lands C Λ E d u rest p) (ap only (tl r (v ∷ []) is)) refl $ k r ws e (subst (Is (Ret T κs) r) (tl r (v ∷ []) is) is))))))

module _ {M : Type 1} {𝓤 : Ura M} (𝓛 : Logic 𝓤) (T : Ended) (c : Clauses 𝓤 T) where
  pub hands_back : (κs : Lfts T.signature.lifetimes) (qs : Shares T.signature.lifetimes) (bounds : AllOutlive T.signature.lifetimes T.signature.outlives κs) (a : Args T.signature κs) (vss : Vals T.signature κs) (g : (c κs a).ghost)
      → (v : Val) (r : (Ret T κs).Denot) (ws : Lasts T κs a) → ent 𝓤 (emp 𝓤) (sem 𝓛 ((Ret T κs).own_val r (v ∷ []))) → ent 𝓤 (emp 𝓤) ((c κs a).ensures g r (at_exit T κs a ws))
      → ent 𝓤 (⋆ 𝓛 (raw (alive 𝓛 T.signature κs qs) ∷ ‵ (lasts T κs a ws) ∷ [])) ((triple_of 𝓛 T.signature (closing 𝓛 T c)).post ((κs, qs, bounds, a, vss), g) v)
  hands_back κs qs bounds a vss g v r ws owned says =
      qed 𝓛 (raw (alive 𝓛 T.signature κs qs) ∷ ‵ (lasts T κs a ws) ∷ []) ∵ updating ! $ at_once ! $
      show ! (λ (r' : (Ret T κs).Denot). sep 𝓤 (Back 𝓛 T.signature (κs, qs, bounds, a, vss) v r') (ensured 𝓛 T c κs a g r')) r $
      use0 𝓛 (‵ ((Ret T κs).own_val r (v ∷ []))) owned $ move ! (1 ∷ 0 ∷ []) $ join ! $ frame ! $
      show ! (λ (ws' : Lasts T κs a). sep 𝓤 (sem 𝓛 (lasts T κs a ws')) ((c κs a).ensures g r (at_exit T κs a ws'))) ws $
      use0 𝓛 (raw ((c κs a).ensures g r (at_exit T κs a ws))) says $ move ! (1 ∷ 0 ∷ []) $ done !

  pub walks_on : (run : Fun 𝓤) (sp : (κs : Lfts T.signature.lifetimes) → Spells (types_at T.signature.params κs)) → ((κs : Lfts T.signature.lifetimes) → Tellss (types_at T.signature.params κs) (Ises (types_at T.signature.params κs)) (sp κs))
      → ((κs : Lfts T.signature.lifetimes) (qs : Shares T.signature.lifetimes) (bounds : AllOutlive T.signature.lifetimes T.signature.outlives κs) (a : Args T.signature κs) (g : (c κs a).ghost)
      → Are (types_at T.signature.params κs) (Ises (types_at T.signature.params κs)) a (valss (types_at T.signature.params κs) (sp κs) a)
      → ent 𝓤 (Owed 𝓛 T c κs qs a (valss (types_at T.signature.params κs) (sp κs) a) g)
      (run (flat (types_at T.signature.params κs) (valss (types_at T.signature.params κs) (sp κs) a)) ((triple_of 𝓛 T.signature (closing 𝓛 T c)).post ((κs, qs, bounds, a, valss (types_at T.signature.params κs) (sp κs) a), g))))
      → Meets 𝓛 T.signature run (closing 𝓛 T c)
  walks_on run sp tl k y =
      let κs : Lfts T.signature.lifetimes = y.0.0 in
      let R : SProp 𝓤 = (c κs y.0.3).requires y.1 in
      let Q : Vals T.signature κs → SProp 𝓤 = λ us. run (flat (types_at T.signature.params κs) us) ((triple_of 𝓛 T.signature (closing 𝓛 T c)).post ((κs, y.0.1, y.0.2, y.0.3, us), y.1)) in
      via 𝓤 (sep 𝓤 R (wand 𝓤 R (Q y.0.4)))
      (via 𝓤 (sep 𝓤 (wand 𝓤 R (Q y.0.4)) R)
      (mono_l 𝓤 R (said 𝓛 T.signature κs y.0.1 (sp κs) (tl κs) y.0.3 (λ us. wand 𝓤 R (Q us)) y.0.4 (λ are. wand_i 𝓤 _ R _ (k κs y.0.1 y.0.2 y.0.3 y.1 are))))
      (comm∗ 𝓤 (wand 𝓤 R (Q y.0.4)) R))
      (apply∗ 𝓤 R (Q y.0.4))
