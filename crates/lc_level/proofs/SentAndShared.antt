-- Which jobs, rule files and attributes of files may be shared among threads and sent to them, as a set for `search`.
use denote.Param.Send.{IsSend, IsSync, sendable}
use Rattle.std.proofs.Crossing as below
use Rattle.lc_rules.proofs.SentAndShared as rules
use Rattle.lc_level.specs.contracts.file_attributes.FileAttributes as FileAttributes
use Rattle.lc_level.specs.contracts.job.Job as Job

pub job_send : IsSend Job.the_row
job_send = search (rules.crosses, sendable, below.crosses) depth 100 fits 20000

pub job_sync : IsSync Job.the_row
job_sync = search (rules.crosses, sendable, below.crosses) depth 100 fits 20000

pub attributes_send : IsSend FileAttributes.the_row
attributes_send = search (sendable, below.crosses) depth 60 fits 20000

pub attributes_sync : IsSync FileAttributes.the_row
attributes_sync = search (sendable, below.crosses) depth 60 fits 20000

pub ruleset crosses = (rules.crosses, job_send, job_sync, attributes_send, attributes_sync)
