-- `bench_round::round_on` meets its contract: a round that no rule turns away is played.
use Rattle.bench_round.specs.RoundOutcomes.{may_play, plays}
use Rattle.std.proofs.Common.{rules}
use Rattle.bench_round.proofs.round_on.Goals as goal

pub play-answer-requires : goal.play-answer-requires
play-answer-requires c = may_play c.args.held c.args.words.now _ c.survey_all-survey.ensures c.in_ok-may_play.ensures

pub returns : goal.returns
returns c =
    plays c.args.held c.args.words.now _ c.survey_all-survey.ensures c.in_ok-may_play.ensures (search rules) _ c.play-answer.ensures.0 _
    c.after_round-next.ensures _ c.play-answer.ensures.1
