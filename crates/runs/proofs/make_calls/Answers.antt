use Rattle.std.proofs.Common.{◌≡◌, ◌+◌, List, [], ◌∷◌, ◌++◌, drop, vec_items, sym, refl, ap, ◌∙◌, append_assoc, append-nil, arith}
use Rattle.std.proofs.lemmas.List.{at_drop_more, at_drop_all}
use Rattle.parts.specs.declared.broadcast.Broadcast.{Ghosts as Broadcasts}
use Rattle.parts.specs.declared.consensus.Consensus.{Ghosts as Consensuses}
use Rattle.total_order.specs.declared.call.Call.{Call}
use Rattle.total_order.specs.Carrying.{Carrying}
use Rattle.total_order.specs.Models.{model}
use Rattle.total_order.specs.Calls.{Answer, calling}
use Rattle.runs.specs.Runs.{left_by, answers_to}
use Rattle.runs.proofs.make_calls.Goals as goal

-- One more call.
module _ {X Y : Type 0} (b : Broadcasts X) (c : Consensuses Y) where
  left_more : (s s' : Carrying b c) (k : Call) (ks : List Call) → s' ≡ left_by b c s (k ∷ []) → left_by b c s' ks ≡ left_by b c s (k ∷ ks)
  unfolding left_by
  left_more s s' k ks e = ap (λ z. left_by b c z ks) e

  told_more : (s s' : Carrying b c) (k : Call) (ks : List Call) (us us' : List Answer) → s' ≡ left_by b c s (k ∷ []) → us' ≡ us ++ answers_to b c s (k ∷ [])
      → us' ++ answers_to b c s' ks ≡ us ++ answers_to b c s (k ∷ ks)
  unfolding left_by answers_to
  told_more s s' k ks us us' e f =
      ap (λ z. z ++ answers_to b c s' ks) f ∙ append_assoc us ((calling b c s k).tells ∷ []) (answers_to b c s' ks)
      ∙ ap (λ z. us ++ ((calling b c s k).tells ∷ answers_to b c z ks)) e

pub loop-call-init : goal.loop-call-init
loop-call-init g c =
    let s = model g.B.Broadcast g.C.Consensus c.args.carrier.now in
    (refl {a = left_by g.B.Broadcast g.C.Consensus s c.args.calls.now}, ap (λ us. us ++ answers_to g.B.Broadcast g.C.Consensus s c.args.calls.now) c.requires.none, c.requires.empty, c.requires.room)

pub loop-call-preserved : goal.loop-call-preserved
loop-call-preserved g c =
    let b = g.B.Broadcast in
    let d = g.C.Consensus in
    let i = c.loop-call.call-index in
    let xs = c.args.calls.now in
    let s = model b d c.loop-call.carrier in
    let s' = model b d c.make_call.new.carrier in
    let us = vec_items c.loop-call.answers in
    let us' = vec_items c.make_call.new.answers in
    let h = c.make_call.ensures in
    let inv = c.loop-call.invariant in (
      left_more b d s s' _ (drop (i + 1) xs) h.carrier ∙ sym (at_drop_more (left_by b d s) xs i _ c.loop-call-test.true) ∙ inv.0,
      told_more b d s s' _ (drop (i + 1) xs) us us' h.carrier h.answers
          ∙ sym (at_drop_more (λ ys. us ++ answers_to b d s ys) xs i _ c.loop-call-test.true) ∙ inv.1,
      omega (arith, h.len, inv.2),
      omega (arith, h.capacity, inv.3),
    )

pub returns : goal.returns
unfolding left_by answers_to
returns g c =
    let b = g.B.Broadcast in
    let d = g.C.Consensus in
    let xs = c.args.calls.now in
    let i = c.loop-call.call-index in
    let s = model b d c.loop-call.carrier in
    let us = vec_items c.loop-call.answers in
    record {
      carrier = sym (at_drop_all (left_by b d s) xs i c.loop-call-test.false) ∙ c.loop-call.invariant.0;
      answers = sym (append-nil us) ∙ sym (at_drop_all (λ ys. us ++ answers_to b d s ys) xs i c.loop-call-test.false) ∙ c.loop-call.invariant.1;
    }
