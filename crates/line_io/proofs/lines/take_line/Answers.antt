use Rattle.std.proofs.Common.{arith, length, [], ◌≡◌, ◌<◌, ◌∷◌, ap, ◌∙◌, sym, ◌++◌}
use Rattle.std.proofs.lemmas.Grind.{common_steps}
use Rattle.station.specs.Since.{since_on}
use Rattle.line_io.proofs.FirstLine.{through, through_none, overlong, onward, IsOpen-push}
use Rattle.line_io.proofs.Drawing.{drew_none, drew_on, held_same}
use Rattle.line_io.proofs.lines.take_line.Goals as goal

pub bytes-init : goal.bytes-init
bytes-init g c = record {
  drew = drew_none _;
  read = held_same _ _ ∙ ap (λ x. x ++ c.args.bytes.now) (sym c.clear.ensures);
  within = rw c.clear.ensures tt;
  short = rw c.clear.ensures (omega arith);
}

pub returns-in-Failed : goal.returns-in-Failed
returns-in-Failed g c =
    let p = c.bytes.invariant in
    let q = c.in-Failed.ensures in
    record {
      drew = drew_on _ _ _ _ p.drew q.drew;
      gave = (p.within, through_none _ _ _ _ _ _ p.read q.gave.0 (since_on _ _ _ p.drew.grows q.drew.grows), q.gave.1);
      short = p.short;
    }

pub returns-then-is_empty : goal.returns-then-is_empty
returns-then-is_empty g c =
    let p = c.bytes.invariant in
    let q = c.in-End.ensures in
    let none : c.bytes.line.items ≡ [] = grind (arith, common_steps) in
    record {
      drew = drew_on _ _ _ _ p.drew q.drew;
      gave = (through_none _ _ _ _ _ _ p.read q.gave.0 (since_on _ _ _ p.drew.grows q.drew.grows) ∙ none, q.gave.1, q.gave.2);
      short = p.short;
    }

pub returns-else-is_empty : goal.returns-else-is_empty
returns-else-is_empty g c =
    let p = c.bytes.invariant in
    let q = c.in-End.ensures in
    let some : 0 < length c.bytes.line.items = grind (arith, common_steps) in
    record {
      drew = drew_on _ _ _ _ p.drew q.drew;
      gave = (p.within, some, through_none _ _ _ _ _ _ p.read q.gave.0 (since_on _ _ _ p.drew.grows q.drew.grows), q.gave.1, q.gave.2);
      short = p.short;
    }

pub returns-then-byte-eq10 : goal.returns-then-byte-eq10
returns-then-byte-eq10 g c =
    let p = c.bytes.invariant in
    let q = c.in-Byte.ensures in
    record {
      drew = drew_on _ _ _ _ p.drew q.drew;
      gave = (p.within, through _ _ _ _ _ _ _ p.read (q.gave ∙ ap (λ b. b ∷ c.next.new.self) c.if-byte-eq10.true) (since_on _ _ _ p.drew.grows q.drew.grows));
      short = p.short;
    }

pub returns-then-is_full : goal.returns-then-is_full
returns-then-is_full g c =
    let p = c.bytes.invariant in
    let q = c.in-Byte.ensures in
    let full : length c.bytes.line.items ≡ 1024 = grind (arith, common_steps) in
    record {
      drew = drew_on _ _ _ _ p.drew q.drew;
      gave = λ rest. overlong _ _ rest _ _ 1024 (through _ _ _ _ _ _ _ p.read q.gave (since_on _ _ _ p.drew.grows q.drew.grows)) c.if-byte-eq10.false full p.within;
      short = p.short;
    }

pub bytes-preserved : goal.bytes-preserved
bytes-preserved g c =
    let p = c.bytes.invariant in
    let q = c.in-Byte.ensures in
    record {
      drew = drew_on _ _ _ _ p.drew q.drew;
      read = onward _ _ _ _ _ (through _ _ _ _ _ _ _ p.read q.gave (since_on _ _ _ p.drew.grows q.drew.grows)) c.push.ensures.items;
      within = rw c.push.ensures.items (IsOpen-push _ _ p.within c.if-byte-eq10.false);
      short = grind (arith, common_steps);
    }
