use Rattle.std.proofs.Common.{ap, ◌∙◌}
use Rattle.station.specs.Sources.{SourceState}
use Rattle.station.specs.declared.sources.Pull.TheVariants.{Took, Ended, Failed}
use Rattle.line_io.proofs.Drawing.{drew_none, drew_pull, held_none, held_same, none_there, read_there}
use Rattle.line_io.proofs.bytes.ByteReader.next.Goals as goal

pub returns-then-self : goal.returns-then-self
returns-then-self g c = record { drew = drew_none _; gave = held_same _ _ ∙ c.give.ensures }

pub returns-in-Failed : goal.returns-in-Failed
returns-in-Failed g c =
    let seen = ap (λ (s : SourceState). s.seen) c.in-Failed.ensures.after in
    record {
      drew = drew_pull _ _ Failed c.read.new.buf c.in-Failed.ensures.after;
      gave = (none_there _ _ _ _ _ _ c.self.view_is c.if-self.false seen, held_none _ _ _ c.if-self.false);
    }

pub returns-in-Ended : goal.returns-in-Ended
returns-in-Ended g c =
    let seen = ap (λ (s : SourceState). s.seen) c.in-Ended.ensures.after in
    let ended = ap (λ (s : SourceState). s.ended) c.in-Ended.ensures.after in
    record {
      drew = drew_pull _ _ Ended c.read.new.buf c.in-Ended.ensures.after;
      gave = (none_there _ _ _ _ _ _ c.self.view_is c.if-self.false seen, ended, held_none _ _ _ c.if-self.false);
    }

pub returns-in-Took : goal.returns-in-Took
returns-in-Took g c =
    let seen = ap (λ (s : SourceState). s.seen) c.in-Took.ensures.after in
    record {
      drew = drew_pull _ _ (Took c.in-Took.count) c.read.new.buf c.in-Took.ensures.after;
      gave = read_there _ _ _ _ _ _ _ c.self.view_is c.if-self.false seen ∙ c.give-in-Took.ensures;
    }
