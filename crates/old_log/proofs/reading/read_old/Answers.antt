use Rattle.std.proofs.Common.{◌≡◌, ◌∙◌, ◌++◌, ◌∷◌, [], List, ap, arith, length, length-append, subst, sym}
use Rattle.definitions.specs.declared.logs.Entry.{Entry}
use Rattle.session_log.specs.Reading.{LogReading}
use Rattle.std.specs.Prelude.{Option, None, Ok, Err}
use Rattle.old_log.proofs.Asking.{IsReading, ReadsOn, are_bytes, fault_comes, none_comes, read_all, reading_start, reads_on}
use Rattle.old_log.proofs.reading.read_old.Goals as goal

pub entries-init : goal.entries-init
entries-init c =
    let Is : List Entry → Type 0 = λ es. IsReading c.args.session.now c.args.bytes.now es c.new-reader.result in
    let at : c.new-reader.result.at ≡ 0 = ap (λ (r : LogReading). r.at) c.new-reader.ensures in
    record {
      within = omega arith;
      reading = subst Is (sym c.new-entries.ensures.items) (reading_start c.args.session.now c.args.bytes.now c.new-reader.result c.new-reader.ensures);
    }

-- the entry that was read
on : (c : goal.In_ok-push-in-Ok-Some) → ReadsOn c.args.session.now c.args.bytes.now c.entries.entries.items c.in-Ok-Some.entry c.read.new.self
on c = reads_on c.args.session.now c.args.bytes.now c.entries.entries.items c.in-Ok-Some.entry c.entries.reader c.read.new.self (are_bytes c.args.bytes.now c.type_inv.bytes) c.entries.invariant.reading
    (sym (c.in-Ok-Some.is ∙ ap (λ (o : Option Entry). Ok o) c.in-Ok-Some.field-0-is) ∙ c.read.ensures.answer) c.read.ensures.reader

pub entries-smaller : goal.entries-smaller
entries-smaller c =
    let more = (on c).more in
    let count : length c.push.new.self.items ≡ length (c.entries.entries.items ++ c.in-Ok-Some.entry ∷ []) = ap (λ (es : List Entry). length es) c.in_ok-push-in-Ok-Some.ensures.items in
    let one = length-append c.entries.entries.items (c.in-Ok-Some.entry ∷ []) in
    omega arith

pub entries-preserved : goal.entries-preserved
entries-preserved c =
    let Is : List Entry → Type 0 = λ es. IsReading c.args.session.now c.args.bytes.now es c.read.new.self in
    record { within = c.read.ensures.kept; reading = subst Is (sym c.in_ok-push-in-Ok-Some.ensures.items) (on c).reading }

pub returns-in-Ok-None : goal.returns-in-Ok-None
returns-in-Ok-None c =
    let e = c.old_of-log.ensures in
    read_all c.args.session.now c.args.me c.args.bytes.now c.entries.entries.items (Ok None) c.entries.reader c.read.new.self c.old_of-log.result
    (are_bytes c.args.bytes.now c.type_inv.bytes) c.entries.invariant.reading none_comes (sym (c.in-Ok-None.is ∙ ap (λ (o : Option Entry). Ok o) c.in-Ok-None.field-0-is) ∙ c.read.ensures.answer) c.read.ensures.reader
    e.entries e.others e.fault e.kept e.writer

pub returns-in-Err : goal.returns-in-Err
returns-in-Err c =
    let e = c.old_of-log-in-Err.ensures in
    read_all c.args.session.now c.args.me c.args.bytes.now c.entries.entries.items (Err c.in-Err.fault) c.entries.reader c.read.new.self c.old_of-log-in-Err.result
    (are_bytes c.args.bytes.now c.type_inv.bytes) c.entries.invariant.reading (fault_comes c.in-Err.fault) (sym c.in-Err.is ∙ c.read.ensures.answer) c.read.ensures.reader
    e.entries e.others e.fault e.kept e.writer
