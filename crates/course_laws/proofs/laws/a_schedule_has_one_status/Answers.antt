use Rattle.course_laws.proofs.Finding.{ends_once}
use Rattle.course_laws.proofs.laws.a_schedule_has_one_status.Goals as goal

pub returns : goal.returns
returns g c = ends_once _
