mod LineLaws
mod LongScripts
