use Rattle.abc_runner.proofs.Ending as ending
use Rattle.abc_runner.proofs.NetworkTelling.{handed_over, network_done}
use Rattle.abc_runner.proofs.top.run.Goals as goal

pub returns-clause-answers : goal.returns-clause-answers
returns-clause-answers g c = (c.answer-answer.result, c.answer-answer.ensures.answers, c.ran.ensures, c.write_answer-status.ensures)

pub returns-clause-read_fault : goal.returns-clause-read_fault
returns-clause-read_fault g c = ending.read_fault _ _ _ _ _ _ _ _ _ _ _ c.answer-answer.ensures.answers c.write_answer-status.ensures

pub returns-clause-too_long_only : goal.returns-clause-too_long_only
returns-clause-too_long_only g c = ending.too_long_only _ _ _ _ _ _ _ _ _ _ _ c.answer-answer.ensures.answers c.write_answer-status.ensures

pub returns-clause-too_long : goal.returns-clause-too_long
returns-clause-too_long g c = ending.too_long _ _ _ _ _ _ _ _ _ _ _ c.answer-answer.ensures.answers c.write_answer-status.ensures

pub returns-clause-whole_text : goal.returns-clause-whole_text
returns-clause-whole_text g c = ending.whole_text _ _ _ _ _ _ _ _ _ _ _ c.answer-answer.ensures.answers c.write_answer-status.ensures

pub returns-clause-source_sound : goal.returns-clause-source_sound
returns-clause-source_sound g c = ending.source_sound _ _ _ _ _ _ _ _ _ _ _ c.answer-answer.ensures.answers c.write_answer-status.ensures

pub returns-clause-line : goal.returns-clause-line
returns-clause-line g c = ending.refusal_line _ _ _ _ _ _ _ _ _ _ _ c.answer-answer.ensures.answers c.write_answer-status.ensures

pub returns-clause-sink_sound : goal.returns-clause-sink_sound
returns-clause-sink_sound g c = ending.sink_sound _ _ _ _ _ _ _ c.write_answer-status.ensures

pub returns-clause-write_fault : goal.returns-clause-write_fault
returns-clause-write_fault g c =
    ending.write_fault _ _ _ _ _ _ _ _ _ _ _ c.answer-answer.ensures.answers c.write_answer-status.ensures _ c.ran.ensures

pub returns-clause-no_memory : goal.returns-clause-no_memory
returns-clause-no_memory g c = ending.no_memory _ _ _ _ _ _ _ _ _ _ _ c.answer-answer.ensures.answers c.write_answer-status.ensures

pub returns-clause-complete : goal.returns-clause-complete
returns-clause-complete g c = ending.complete _ _ _ _ _ _ _ _ _ _ _ c.answer-answer.ensures.answers c.write_answer-status.ensures

pub returns-clause-ran : goal.returns-clause-ran
returns-clause-ran g c = handed_over _ _ _ _ _ _ _ _ _ _ _ _ c.answer-answer.ensures.answers c.ran.ensures c.write_answer-status.ensures

pub returns-clause-network : goal.returns-clause-network
returns-clause-network g c done =
    network_done _ _ _ _ _ _ _ _ _ _ _ _ c.answer-answer.ensures.answers c.ran.ensures c.write_answer-status.ensures done
