-- The style sheet of a page. It imports nothing.
use Rattle.std.specs.Prelude.{ℕ, List, codes}

abbrev pub style_sheet : List ℕ
style_sheet = codes "html{color-scheme:light dark}body{font:1rem/1.5 sans-serif;max-width:50rem;margin:0 auto;padding:1rem;color:#1b1b1b;background:#fff;overflow-wrap:anywhere}h1,h2,h3{line-height:1.25;margin:1.5rem 0 .5rem}a{color:#0645ad}p,pre,ul,dl{margin:.5rem 0}ul ul{margin:0}pre,code,dt{font-family:ui-monospace,monospace;font-size:.875rem}pre{white-space:pre-wrap;padding:.5rem;background:#f2f2f2}pre code{display:inline-block;max-width:100%}nav>ul>li>ul{columns:15rem}nav li li{break-inside:avoid}nav a:not([href*=':::']){font-weight:bold}section+section,footer{margin-top:2rem;border-top:1px solid #949494}dt{margin-top:.5rem}dt a{text-decoration:none}dt a:hover{text-decoration:underline}dd{margin-left:2rem}dd p{margin:.25rem 0}h3:target,dt:target{background:#fff2c2}@media(max-width:40rem){dd,ul{margin-left:0;padding-left:0}ul{list-style-position:inside}}@media(prefers-color-scheme:dark){body{color:#e6e6e6;background:#161616}a{color:#8ab4f8}pre{background:#262626}h3:target,dt:target{background:#3d3300}}@media print{body{max-width:none;color:#000;background:#fff}a{color:#000}pre,h3:target,dt:target{background:none}pre{border:1px solid #949494;break-inside:avoid}h2,h3,dt{break-after:avoid}}"
