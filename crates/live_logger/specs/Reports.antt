-- Reports: what a report and an exhibit tell of what came, unless memory ran out.
use Rattle.std.specs.Prelude.{◌≡◌, false, List}
use Rattle.definitions.specs.declared.findings.Finding.{Finding}
use Rattle.auditor.specs.Reports.{Reported}
use Rattle.evidence.specs.declared.exhibit.Exhibit.{Exhibit}
use Rattle.socket_station.specs.Items.{Item}
use Rattle.watch_rules.specs.After.{view_of}
use Rattle.watch_rules.specs.Told.{IsTold}
use Rattle.log_books.specs.Books.{ExhibitsOn, ReportsOn}
use Rattle.live_logger.specs.States.{WatchState}

-- the report is that on the lists of what the logger knows
abbrev pub ReportsNow : WatchState → Reported → Type 0
ReportsNow w r = w.is_out_of_memory ≡ false → ReportsOn w.view.setting.game w.view.streams r

-- it is that on the lists which each history gives that shows what the logger knows, as if the
-- audit began afresh
abbrev pub ReportsTold : WatchState → Reported → Type 0
ReportsTold w r = (items : List Item) → w.is_out_of_memory ≡ false → IsTold items w.view → ReportsOn w.view.setting.game (view_of w.view.setting items).streams r

-- the exhibit shows the finding, if it is one of the report's
abbrev pub ExhibitsNow : WatchState → Finding → Exhibit → Type 0
ExhibitsNow w f x = w.is_out_of_memory ≡ false → ExhibitsOn w.view.setting.game w.view.streams f x
