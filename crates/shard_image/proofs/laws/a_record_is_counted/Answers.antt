use Rattle.shard_image.proofs.Decisions.{follows_counted, image_counted}
use Rattle.shard_image.proofs.laws.a_record_is_counted.Goals as goal

pub returns-clause-step : goal.returns-clause-step
returns-clause-step c i r sound written can = (follows_counted i r sound written can).0

pub returns-clause-keeps : goal.returns-clause-keeps
returns-clause-keeps c i r sound written can = (follows_counted i r sound written can).1

pub returns-clause-all : goal.returns-clause-all
returns-clause-all c recs written none = (image_counted recs written none).0

pub returns-clause-sound : goal.returns-clause-sound
returns-clause-sound c recs written none = (image_counted recs written none).1
