-- Each kind of job has its effect.
use Rattle.std.proofs.Common.{ap, length, ◌∙◌}
use Rattle.dri_card.specs.Contents.{Contents}
use Rattle.dri_replay.proofs.Cards.{loaded_sides}
use Rattle.dri_ring.proofs.Ran.{loaded_shows, ran_clear, ran_draw, ran_swap, still_card}
use Rattle.dri_ring.proofs.running.run.Goals as goal

pub returns-in-Clear-clause-planes : goal.returns-in-Clear-clause-planes
returns-in-Clear-clause-planes c = λ p is. rw c.in-Clear.is (ran_clear c.args.scene.now c.in-Clear.clips c.in-Clear.colour c.in-Clear.depth c.args.card.now c.clear_clips.new.card p c.clear_clips.ensures.held c.clear_clips.ensures.others is)

pub returns-in-Clear-clause-card : goal.returns-in-Clear-clause-card
returns-in-Clear-clause-card c = still_card c.args.scene.now c.args.job.now c.args.card.now c.clear_clips.new.card c.requires.card c.clear_clips.ensures.sides (ap (λ (v : Contents). length v.memory) c.clear_clips.ensures.others)
    (λ p is. rw c.in-Clear.is (ran_clear c.args.scene.now c.in-Clear.clips c.in-Clear.colour c.in-Clear.depth c.args.card.now c.clear_clips.new.card p c.clear_clips.ensures.held c.clear_clips.ensures.others is))

pub returns-in-Draw-clause-planes : goal.returns-in-Draw-clause-planes
returns-in-Draw-clause-planes c = λ p is. rw c.in-Draw.is (ran_draw c.args.scene.now c.in-Draw.clips c.in-Draw.origin c.in-Draw.words c.in-Draw.client c.in-Draw.texture c.in-Draw.triangle c.load.new.card c.draw_clips.new.card p c.load.ensures.draws c.draw_clips.ensures.held c.draw_clips.ensures.others (loaded_shows c.args.card.now c.load.new.card p c.load.ensures.others is))

pub returns-in-Draw-clause-card : goal.returns-in-Draw-clause-card
returns-in-Draw-clause-card c = still_card c.args.scene.now c.args.job.now c.args.card.now c.draw_clips.new.card c.requires.card
    (λ w h s. c.draw_clips.ensures.sides w h (loaded_sides c.args.card.now c.load.new.card c.load.ensures.others w h s))
    (ap (λ (v : Contents). length v.memory) c.draw_clips.ensures.others ∙ c.load.ensures.len)
    (λ p is. rw c.in-Draw.is (ran_draw c.args.scene.now c.in-Draw.clips c.in-Draw.origin c.in-Draw.words c.in-Draw.client c.in-Draw.texture c.in-Draw.triangle c.load.new.card c.draw_clips.new.card p c.load.ensures.draws c.draw_clips.ensures.held c.draw_clips.ensures.others (loaded_shows c.args.card.now c.load.new.card p c.load.ensures.others is)))

pub returns-in-Swap-clause-planes : goal.returns-in-Swap-clause-planes
returns-in-Swap-clause-planes c = λ p is. rw c.in-Swap.is (ran_swap c.args.scene.now c.in-Swap.clips c.args.card.now c.swap_clips.new.card p c.swap_clips.ensures.shown c.swap_clips.ensures.others is)

pub returns-in-Swap-clause-card : goal.returns-in-Swap-clause-card
returns-in-Swap-clause-card c = still_card c.args.scene.now c.args.job.now c.args.card.now c.swap_clips.new.card c.requires.card c.swap_clips.ensures.sides (ap (λ (v : Contents). length v.memory) c.swap_clips.ensures.others)
    (λ p is. rw c.in-Swap.is (ran_swap c.args.scene.now c.in-Swap.clips c.args.card.now c.swap_clips.new.card p c.swap_clips.ensures.shown c.swap_clips.ensures.others is))
