-- The paths of the sites at which a directory can have an error.
use Rattle.std.specs.Prelude.{ℕ, List, codes}
use Rattle.lc_glob.specs.Path.{path_in}
use Rattle.lc_level.specs.declared.fault_site.FaultSite.{FaultSite}
use Rattle.lc_level.specs.declared.fault_site.FaultSite.TheVariants.{Directory, Git, GitInfo, InfoExclude, InfoAttributes, Gitignore}
use Rattle.lc_level.specs.declared.fault_site.FaultSite.TheVariants.{Gitattributes}

-- the path of a site, for a directory at a path
abbrev pub site_path : List ℕ → FaultSite → List ℕ
site_path directory Directory = directory
site_path directory Git = codes ".git"
site_path directory GitInfo = codes ".git/info"
site_path directory InfoExclude = codes ".git/info/exclude"
site_path directory InfoAttributes = codes ".git/info/attributes"
site_path directory Gitignore = path_in directory (codes ".gitignore")
site_path directory Gitattributes = path_in directory (codes ".gitattributes")
