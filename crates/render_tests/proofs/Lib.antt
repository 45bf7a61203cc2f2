mod FirstRender
