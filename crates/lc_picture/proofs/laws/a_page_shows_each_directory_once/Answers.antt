use Rattle.lc_picture.proofs.{Outlines.{drawn_law, shown_law}, ReportShown.report_law}
use Rattle.lc_picture.proofs.laws.a_page_shows_each_directory_once.Goals as goal

pub returns-clause-shown : goal.returns-clause-shown
returns-clause-shown c = shown_law

pub returns-clause-report : goal.returns-clause-report
returns-clause-report c = report_law

pub returns-clause-drawn : goal.returns-clause-drawn
returns-clause-drawn c = drawn_law
