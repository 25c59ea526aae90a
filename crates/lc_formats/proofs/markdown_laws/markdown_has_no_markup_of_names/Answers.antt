use Rattle.lc_formats.proofs.MarkdownLawProofs.{blank_law, escaped_law, link_law, unescaped_law}
use Rattle.lc_formats.proofs.markdown_laws.markdown_has_no_markup_of_names.Goals as goal

pub returns-clause-reads_back : goal.returns-clause-reads_back
returns-clause-reads_back c = unescaped_law

pub returns-clause-escaped : goal.returns-clause-escaped
returns-clause-escaped c = escaped_law

pub returns-clause-no_link : goal.returns-clause-no_link
returns-clause-no_link c = link_law

pub returns-clause-no_blank : goal.returns-clause-no_blank
returns-clause-no_blank c = blank_law
