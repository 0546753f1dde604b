use Rattle.std.proofs.Common.{◌∙◌, sym, arith}
use Rattle.std.proofs.lemmas.Bool.{true≢false}
use Rattle.std.proofs.lemmas.List.Elements.{All-contains}
use Rattle.dri_explore.specs.Nodes.{IsSameKey}
use Rattle.dri_explore.specs.declared.node.Node.{Node}
use Rattle.dri_explore.proofs.Walking.{all_next, all_of}
use Rattle.dri_explore.proofs.level.Level.has.Goals as goal

pub loop-i-preserved : goal.loop-i-preserved
loop-i-preserved c = all_next (λ (other : Node). IsSameKey other c.args.node.now → ⊥) c.args.self.now.nodes c.loop-i.i c.get.result.now c.get.ensures c.loop-i.invariant (λ same. true≢false (sym (c.is_same.ensures.1 same) ∙ c.if-is_same.false))

pub returns : goal.returns
returns c = let none = all_of (λ (other : Node). IsSameKey other c.args.node.now → ⊥) c.args.self.now.nodes c.loop-i.i (omega (arith, c.loop-i-test.false, c.len-i-end.ensures)) c.loop-i.invariant in
    (λ e. absurd (true≢false (sym e)), λ has. absurd (All-contains (λ (other : Node). IsSameKey other c.args.node.now → ⊥) c.args.self.now.nodes has.0 none has.1 has.2))
