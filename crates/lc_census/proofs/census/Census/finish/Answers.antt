use Rattle.std.proofs.Common.{◌≡◌, ◌+◌, ◌-◌, Bool, true, false, ◌&&◌, refl, ap, ◌∙◌}
use mir.Val.{bool_byte}
use Rattle.lc_census.specs.{Bytes.one_if, Fed.CensusModel, declared.line_count.Count.Count, TheCutting.cut}
use Rattle.lc_census.proofs.{OneCutting.cut_is, Tells.{told, scan_tells}}
use Rattle.lc_census.proofs.census.Census.finish.Goals as goal

byte_is : (b : Bool) → bool_byte b ≡ one_if b
byte_is true = refl
byte_is false = refl

abbrev told_by : CensusModel → Count
told_by fed = told fed.scan fed.has_rest fed.bytes

pub returns : goal.returns
returns c bytes h =
    let s = c.self.inside.scan in
    let rest = c.from.ensures ∙ byte_is c.self.inside.has_rest in
    let blank_rest = c.from-2.ensures ∙ byte_is (c.self.inside.has_rest && s.is_blank) in (
      cut bytes,
      cut_is bytes,
      (λ t. record {
        lines = s.lf + (s.cr - s.crlf) + rest t;
        blank = s.blank + blank_rest t;
        bytes = c.self.inside.bytes;
        eol = c.class.ensures t;
      })
          ∙ ap told_by (c.self.view_is ∙ h) ∙ scan_tells bytes,
    )
