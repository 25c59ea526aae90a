-- The parts of a page that are the same for every report.
use Rattle.std.specs.Prelude.{ℕ, List, ◌++◌, codes}

-- the style of a page's parts: a box divides its space by the numbers of its strips, and a strip by those of its boxes
unfoldable pub style : List ℕ
style =
    codes ":root{color-scheme:light dark}\nbody{margin:.75rem 1rem;font:.875rem/1.35 system-ui,sans-serif}\n"
    ++ codes "h1{margin:0;font-size:1.5rem;line-height:1.2;overflow-wrap:anywhere}\nh2{margin:1.5rem 0 .5rem;font-size:1.1rem}\n"
    ++ codes ".by{margin:0;overflow-wrap:anywhere}\n.by::first-letter{text-transform:uppercase}\n"
    ++ codes "dl{display:flex;flex-wrap:wrap;gap:0 2rem;margin:.3rem 0}\n"
    ++ codes "dl div{display:flex;flex-direction:row-reverse;align-items:baseline;gap:.4em}\n"
    ++ codes "dd{margin:0;font-size:1.3rem;line-height:1.2;font-variant-numeric:tabular-nums}\n"
    ++ codes "ul{max-height:9em;overflow:auto;overflow-wrap:anywhere}\n"
    ++ codes ".legend{display:flex;flex-wrap:wrap;gap:.2rem .4rem;margin:0 0 .4rem;font-size:.75rem}\n"
    ++ codes ".legend span{padding:0 .4em;background:var(--c);overflow-wrap:anywhere}\n.legend a{visibility:hidden}\n"
    ++ codes "body:has(:target) .legend a{visibility:visible}\n"
    ++ codes ".tree{position:relative;display:flex;height:calc(100vh - 8.5rem);min-height:30rem;font-size:.7rem;line-height:1.25}\n"
    ++ codes ".b{flex:var(--n) 1 0;min-width:0;min-height:0;overflow:hidden;display:flex;flex-direction:column;background:var(--c);"
    ++ codes "\nscroll-margin-top:100vh;outline:1px solid color-mix(in srgb,CanvasText 35%,#0000);outline-offset:-.5px}\n"
    ++ codes ".b:target{position:absolute;inset:0;z-index:1}\n"
    ++ codes ".b>div{flex:var(--n) 1 0;min-width:0;min-height:0;display:flex;margin:0 2px}\n"
    ++ codes ".b:has(>div>div)::after{content:\"\";flex:0 1 2px}\n"
    ++ codes ".b>a{flex:0 1 1.25em;min-height:0;padding:0 .25em;overflow:hidden;white-space:nowrap;text-overflow:ellipsis;"
    ++ codes "color:inherit;text-decoration:none;container-type:size}\n.b>a:has(+:empty){flex-grow:1}\n.b>div:empty{display:none}\n"
    ++ codes ".b>a[href]:hover b{text-decoration:underline}\n.b>a:focus-visible{outline:2px solid;outline-offset:-2px}\n"
    ++ codes ".b>a>span{opacity:.8}\n"
    ++ codes "@container (height>2.5em) and (width<9em){.b>a>span{display:block;overflow:hidden;text-overflow:ellipsis}}\n"
    ++ codes "@container (height<1.15em) or (width<2.4em){.b>a>:is(b,span){display:none}}\n"
    ++ codes "table{border-collapse:collapse;font-variant-numeric:tabular-nums}\nth,td{padding:0 .6rem;text-align:right}\n"
    ++ codes "tr>:first-child{text-align:left}\n.bar{display:flex;width:min(18rem,22vw);height:.8em}\n.bar i,.bar u{flex-grow:var(--n)}\n"
    ++ codes ".bar i{outline:1px solid #888;background:var(--c)}\n"
    ++ codes ".e0{--c:#7b9cff}.e1{--c:#ee9d38}.e2{--c:#85ca87}.e3{--c:#ce7283}.e4{--c:#3baeaf}\n"
    ++ codes ".e5{--c:#ffe46e}.e6{--c:#d8b4e5}.e7{--c:#b38552}.e8{--c:#d0d0d0}\n.e9{--c:color-mix(in srgb,CanvasText 7%,Canvas)}\n"
    ++ codes "@media (prefers-color-scheme:dark){.e0{--c:#0761a7}.e1{--c:#713f00}.e2{--c:#3e6b44}.e3{--c:#64081a}.e4{--c:#0414b8}\n"
    ++ codes ".e5{--c:#7d6e0a}.e6{--c:#623f6a}.e7{--c:#362f38}.e8{--c:#555555}}\n"
    ++ codes "@media (max-width:45rem){tbody{display:grid;grid-template-columns:repeat(5,auto);font-size:min(.75rem,2.9vw)}\n"
    ++ codes "tr{display:contents}tr>:first-child,tr>:last-child{grid-column:1/-1}th,td{padding:0 .2rem}\n"
    ++ codes ".bar{width:auto;margin-bottom:.4rem}}\n"
    ++ codes "@media print{.tree{height:19cm;break-inside:avoid;font-size:6pt;print-color-adjust:exact}}\n"

abbrev pub page_begin : List ℕ
page_begin =
    codes "<!DOCTYPE html>\n<html lang=\"en\">\n<head>\n<meta charset=\"utf-8\">\n"
    ++ codes "<meta name=\"viewport\" content=\"width=device-width\">\n<title>"

-- the part of a page between its title and its style
abbrev pub style_begin : List ℕ
style_begin = codes "</title>\n<style>\n"

-- the part of a page between its style and its title
abbrev pub body_begin : List ℕ
body_begin = codes "</style>\n</head>\n<body>\n<h1>"
