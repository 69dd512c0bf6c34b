-- Answers: what a post in memory answers.
use Rattle.std.specs.Prelude.{Bool, if◌then◌else◌}
use Rattle.datagram_post.specs.declared.answers.Sent.{Sent}
use Rattle.datagram_post.specs.declared.answers.Sent.TheVariants as S

-- a send that goes on gives the datagram
abbrev pub sent_by : (goes : Bool) → Sent
sent_by goes = if goes then S.Gave else S.Failed
