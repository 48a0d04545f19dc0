use Rattle.command_archive.proofs.Courses.{refused_course}
use Rattle.command_archive.proofs.file.file_day.Goals as goal

pub returns-clause-refused : goal.returns-clause-refused
returns-clause-refused g c =
    refused_course c.args.rows.now c.upgrade_and_put-answer.result c.push_answer.result _ _ c.push_answer.ensures.kept c.upgrade_and_put-answer.ensures.kept
